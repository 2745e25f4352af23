-- Items with different stamps, and lists of items along which the stamps rise.
use Rattle.std.proofs.Common.{◌≡◌, ◌⊎◌, List, [], ◌∷◌, ◌++◌, map, Bool, false, refl, sym, ◌∙◌, subst, arith, inl, inr, true≢false}
use Rattle.std.specs.List.{filter}
use Rattle.std.proofs.lemmas.List.{append-nil}
use Rattle.std.proofs.lemmas.Bool.{cases_Bool}
use Rattle.rl_txn.specs.declared.item.Item.{Item}
use Rattle.rl_txn.specs.declared.batch.Batch.{Batch}
use Rattle.rl_txn.specs.declared.batch.Batch.TheVariants.{Items, Idle, Opened}
use Rattle.rl_base.specs.Lists.{IsPrefix}
use Rattle.rl_base.specs.Order.{IsBelow}
use Rattle.rl_base.proofs.OrderLemmas.{is_below_tells, is_below_from, below_trans}
use Rattle.rl_families.specs.Order.{insert_by_stamp, in_order}
use Rattle.rl_families.specs.Logs.{stamps_in_batch, items_in_batch, stamps_along, items_along}
use Rattle.rl_base.proofs.Members.{In, in_filter, in_map, in_suffix, in_split}
use Rattle.rl_families.proofs.Sorting.{lower, in_insert, in_in_order}
use Rattle.rl_families.proofs.Logs.{item_stamp}
use Rattle.rl_families.proofs.Rising.{Rises, above_in, rises_front, rises_back, behind}

abbrev pub Less : Item → Item → Type 0
Less x y = IsBelow x.stamp y.stamp

abbrev pub Apart : Item → Item → Type 0
Apart x y = Less x y ⊎ Less y x

-- each is below all that come after it
abbrev pub Strict : List Item → Type 0
Strict [] = Unit {0}
Strict (x ∷ xs) = ((y : Item) → In y xs → Less x y) × Strict xs

-- any two have different stamps_along
abbrev pub Diff : List Item → Type 0
Diff [] = Unit {0}
Diff (x ∷ xs) = ((y : Item) → In y xs → Apart x y) × Diff xs

pub not_self : (x : Item) → Less x x → ⊥
not_self x l = elim l [ inl a ↦ omega arith | inr b ↦ omega (arith, b.1) ]

pub not_both : (x y : Item) → Less x y → Less y x → ⊥
not_both x y a b = grind arith

not_lower : (x y : Item) → Apart x y → lower y x ≡ false → Less x y
not_lower x y a h = elim a [ inl l ↦ l | inr l ↦ absurd (true≢false (sym (is_below_from y.stamp x.stamp l) ∙ h)) ]

insert_strict : (x : Item) (ys : List Item) → Strict ys → ((y : Item) → In y ys → Apart x y) → Strict (insert_by_stamp x ys)
insert_strict x [] s d = ((λ y i. absurd i), tt)
insert_strict x (y ∷ ys) s d = elim (cases_Bool (lower y x)) [
  | inl t ↦ rw t (
    (λ z i. elim (in_insert z x ys i) [ inl e ↦ subst (λ (w : Item). Less y w) (sym e) (is_below_tells y.stamp x.stamp t) | inr j ↦ s.0 z j ]),
    insert_strict x ys s.1 (λ z i. d z (inr i)),
  )
  | inr t ↦ rw t (
    (λ z i. elim i [
      | inl e ↦ subst (λ (w : Item). Less x w) (sym e) (not_lower x y (d y (inl refl)) t)
      | inr j ↦ below_trans x.stamp y.stamp z.stamp (not_lower x y (d y (inl refl)) t) (s.0 z j)
    ]),
    s,
  )
]

pub in_order_strict : (xs : List Item) → Diff xs → Strict (in_order xs)
in_order_strict [] d = tt
in_order_strict (x ∷ xs) d = insert_strict x (in_order xs) (in_order_strict xs d.1) (λ y i. d.0 y (in_in_order y xs i))

pub filter_diff : (f : Item → Bool) (xs : List Item) → Diff xs → Diff (filter f xs)
filter_diff f [] d = tt
filter_diff f (x ∷ xs) d = elim (cases_Bool (f x)) [
  | inl t ↦ rw t ((λ y i. d.0 y (in_filter f y xs i).0), filter_diff f xs d.1)
  | inr t ↦ rw t (filter_diff f xs d.1)
]

pub append_diff : (xs ys : List Item) → Diff xs → Diff ys → ((x y : Item) → In x xs → In y ys → Apart x y) → Diff (xs ++ ys)
append_diff [] ys a b c = b
append_diff (x ∷ xs) ys a b c =
    ((λ y i. elim (in_split xs ys y i) [ inl j ↦ a.0 y j | inr j ↦ c x y (inl refl) j ]), append_diff xs ys a.1 b (λ u v i j. c u v (inr i) j))

map_diff : (xs : List Item) → Rises (map (λ (x : Item). x.stamp) xs) → Diff xs
map_diff [] r = tt
map_diff (x ∷ xs) r = ((λ y i. inl (above_in x.stamp (map (λ (z : Item). z.stamp) xs) y.stamp r.0 (in_map (λ (z : Item). z.stamp) y xs i))), map_diff xs r.1)

batch_diff : (b : Batch) → Rises (stamps_in_batch b) → Diff (items_in_batch b)
batch_diff (Items xs) r = map_diff xs r
batch_diff (Idle s) r = tt
batch_diff (Opened s) r = tt

-- along a log whose stamps_along rise
pub log_diff : (log : List Batch) → Rises (stamps_along log) → Diff (items_along log)
log_diff [] r = tt
log_diff (b ∷ bs) r = append_diff (items_in_batch b) (items_along bs) (batch_diff b (rises_front (stamps_in_batch b) (stamps_along bs) r)) (log_diff bs (rises_back (stamps_in_batch b) (stamps_along bs) r))
    (λ x y i j. inl (behind (stamps_in_batch b) (stamps_along bs) r x.stamp (batch_stamp b x i) y.stamp (item_stamp bs y j)))
  where
    batch_stamp : (c : Batch) (x : Item) → In x (items_in_batch c) → In x.stamp (stamps_in_batch c)
    batch_stamp (Items xs) x i = in_map (λ (z : Item). z.stamp) x xs i
    batch_stamp (Idle s) x i = absurd i
    batch_stamp (Opened s) x i = absurd i

pub map_strict : (xs : List Item) → Rises (map (λ (x : Item). x.stamp) xs) → Strict xs
map_strict [] r = tt
map_strict (x ∷ xs) r = ((λ y i. above_in x.stamp (map (λ (z : Item). z.stamp) xs) y.stamp r.0 (in_map (λ (z : Item). z.stamp) y xs i)), map_strict xs r.1)

-- items_along of a strict list are one or have different stamps_along
pub strict_apart : (xs : List Item) → Strict xs → (x y : Item) → In x xs → In y xs → (x ≡ y) ⊎ Apart x y
strict_apart [] s x y i j = absurd i
strict_apart (z ∷ zs) s x y i j = elim i [
  | inl e ↦ elim j [
    | inl f ↦ inl (e ∙ sym f)
    | inr k ↦ inr (inl (subst (λ (w : Item). Less w y) (sym e) (s.0 y k)))
  ]
  | inr k ↦ elim j [
    | inl f ↦ inr (inr (subst (λ (w : Item). Less w x) (sym f) (s.0 x k)))
    | inr m ↦ strict_apart zs s.1 x y k m
  ]
]

pub strict_cross : (xs ys : List Item) → Strict (xs ++ ys) → (x y : Item) → In x xs → In y ys → Less x y
strict_cross [] ys s x y i j = absurd i
strict_cross (z ∷ zs) ys s x y i j = elim i [
  | inl e ↦ subst (λ (w : Item). Less w y) (sym e) (s.0 y (in_suffix zs ys y j))
  | inr k ↦ strict_cross zs ys s.1 x y k j
]

pub strict_filter : (f : Item → Bool) (xs : List Item) → Strict xs → Strict (filter f xs)
strict_filter f [] s = tt
strict_filter f (x ∷ xs) s = elim (cases_Bool (f x)) [
  | inl t ↦ rw t ((λ y i. s.0 y (in_filter f y xs i).0), strict_filter f xs s.1)
  | inr t ↦ rw t (strict_filter f xs s.1)
]

pub strict_append : (xs ys : List Item) → Strict xs → Strict ys → ((x y : Item) → In x xs → In y ys → Less x y) → Strict (xs ++ ys)
strict_append [] ys a b c = b
strict_append (x ∷ xs) ys a b c =
    ((λ y i. elim (in_split xs ys y i) [ inl j ↦ a.0 y j | inr j ↦ c x y (inl refl) j ]), strict_append xs ys a.1 b (λ u v i j. c u v (inr i) j))

-- a part of a strict list that has with each item all below it stands at its head
pub down_prefix : (xs ys : List Item) → Strict xs → Strict ys → ((x : Item) → In x xs → In x ys) → ((x y : Item) → In x xs → In y ys → Less y x → In y xs) → IsPrefix xs ys
down_prefix [] ys s r i d = (ys, refl)
down_prefix (x ∷ xs) [] s r i d = absurd (i x (inl refl))
down_prefix (x ∷ xs) (y ∷ ys) s r i d =
    let e : x ≡ y = elim (i x (inl refl)) [
      | inl e ↦ e
      | inr j ↦ elim (d x y (inl refl) (inl refl) (r.0 x j)) [ inl e ↦ sym e | inr k ↦ absurd (not_both x y (s.0 y k) (r.0 x j)) ]
    ] in
    let k = down_prefix xs ys s.1 r.1
    (λ z j. elim (i z (inr j)) [ inl f ↦ absurd (not_self x (subst (λ u. Less x u) (f ∙ sym e) (s.0 z j))) | inr m ↦ m ])
    (λ z u j m l. elim (d z u (inr j) (inr m) l) [ inl f ↦ absurd (not_self y (subst (λ v. Less y v) (f ∙ e) (r.0 u m))) | inr n ↦ n ]) in
    (k.0, (let k1 = k.1 in let e1 = e in cc))

-- two strict lists with the same members are equal
pub same_members : (xs ys : List Item) → Strict xs → Strict ys → ((x : Item) → In x xs → In x ys) → ((x : Item) → In x ys → In x xs) → xs ≡ ys
same_members xs ys s r i j =
    let p = down_prefix xs ys s r i (λ x y _ k _. j y k) in
    nothing_more xs p.0 ys p.1 (subst (λ z. Strict z) (sym p.1) r) (λ y k. j y (subst (λ z. In y z) p.1 (in_suffix xs p.0 y k)))
  where
    nothing_more : (us rest vs : List Item) → us ++ rest ≡ vs → Strict (us ++ rest) → ((y : Item) → In y rest → In y us) → us ≡ vs
    nothing_more us [] vs e st h = sym (append-nil us) ∙ e
    nothing_more us (y ∷ rest) vs e st h = absurd (not_self y (strict_cross us (y ∷ rest) st y y (h y (inl refl)) (inl refl)))
