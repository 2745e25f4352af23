-- Items in order: sorting and filtering.
use Rattle.std.proofs.Common.{◌≡◌, ◌⊎◌, List, [], ◌∷◌, Bool, true, false, refl, sym, ap, inl, inr}
use Rattle.std.specs.List.{filter}
use Rattle.std.proofs.lemmas.Bool.{cases_Bool}
use Rattle.rl_base.specs.Order.{is_below}
use Rattle.rl_base.proofs.OrderLemmas.{below_one_way, not_below_chain}
use Rattle.rl_txn.specs.declared.item.Item.{Item}
use Rattle.rl_families.specs.Order.{insert_by_stamp, in_order}
use Rattle.rl_base.proofs.Members.{In}

-- one item is below another
abbrev pub lower : Item → Item → Bool
lower x y = is_below x.stamp y.stamp

pub lower_one_way : (x y : Item) → lower x y ≡ true → lower y x ≡ false
lower_one_way x y h = below_one_way x.stamp y.stamp h

pub lower_chain : (x y z : Item) → lower y x ≡ false → lower z y ≡ false → lower z x ≡ false
lower_chain x y z a b = not_below_chain x.stamp y.stamp z.stamp a b

-- ---- lists in order ----
-- x is above none of these
abbrev pub Least : Item → List Item → Type 0
Least x [] = Unit {0}
Least x (y ∷ ys) = (lower y x ≡ false) × Least x ys

abbrev pub Sorted : List Item → Type 0
Sorted [] = Unit {0}
Sorted (x ∷ xs) = Least x xs × Sorted xs

pub least_trans : (x y : Item) (zs : List Item) → lower y x ≡ false → Least y zs → Least x zs
least_trans x y [] a h = tt
least_trans x y (z ∷ zs) a h = (lower_chain x y z a h.0, least_trans x y zs a h.1)

insert_least : (x y : Item) (zs : List Item) → lower x y ≡ false → Least y zs → Least y (insert_by_stamp x zs)
insert_least x y [] a h = (a, tt)
insert_least x y (z ∷ zs) a h = elim (cases_Bool (lower z x)) [
  | inl t ↦ rw t (h.0, insert_least x y zs a h.1)
  | inr t ↦ rw t (a, h)
]

insert_sorted : (x : Item) (ys : List Item) → Sorted ys → Sorted (insert_by_stamp x ys)
insert_sorted x [] h = (tt, tt)
insert_sorted x (y ∷ ys) h = elim (cases_Bool (lower y x)) [
  | inl t ↦ rw t (insert_least x y ys (lower_one_way y x t) h.0, insert_sorted x ys h.1)
  | inr t ↦ rw t ((t, least_trans x y ys t h.0), h)
]

pub in_order_sorted : (xs : List Item) → Sorted (in_order xs)
in_order_sorted [] = tt
in_order_sorted (x ∷ xs) = insert_sorted x (in_order xs) (in_order_sorted xs)

-- ---- filters ----
-- what is above none of the others stands first
pub insert_first : (x : Item) (ys : List Item) → Least x ys → insert_by_stamp x ys ≡ x ∷ ys
insert_first x [] h = refl
insert_first x (y ∷ ys) h = rw h.0 refl

least_filter : (f : Item → Bool) (x : Item) (ys : List Item) → Least x ys → Least x (filter f ys)
least_filter f x [] h = tt
least_filter f x (y ∷ ys) h = elim (cases_Bool (f y)) [ inl t ↦ rw t (h.0, least_filter f x ys h.1) | inr t ↦ rw t (least_filter f x ys h.1) ]

filter_insert_in : (f : Item → Bool) (x : Item) (ys : List Item) → f x ≡ true → Sorted ys → filter f (insert_by_stamp x ys) ≡ insert_by_stamp x (filter f ys)
filter_insert_in f x [] t h = rw t refl
filter_insert_in f x (y ∷ ys) t h = elim (cases_Bool (lower y x)) [
  | inl b ↦ elim (cases_Bool (f y)) [
    | inl u ↦ rw (b, u, b) (ap (λ z. y ∷ z) (filter_insert_in f x ys t h.1))
    | inr u ↦ rw (b, u) (filter_insert_in f x ys t h.1)
  ]
  | inr b ↦ elim (cases_Bool (f y)) [
    | inl u ↦ rw (b, t, u, b) refl
    | inr u ↦ rw (b, t, u) (sym (insert_first x (filter f ys) (least_filter f x ys (least_trans x y ys b h.0))))
  ]
]

filter_insert_out : (f : Item → Bool) (x : Item) (ys : List Item) → f x ≡ false → filter f (insert_by_stamp x ys) ≡ filter f ys
filter_insert_out f x [] t = rw t refl
filter_insert_out f x (y ∷ ys) t = elim (cases_Bool (lower y x)) [
  | inl b ↦ elim (cases_Bool (f y)) [ inl u ↦ rw (b, u) (ap (λ z. y ∷ z) (filter_insert_out f x ys t)) | inr u ↦ rw (b, u) (filter_insert_out f x ys t) ]
  | inr b ↦ rw (b, t) refl
]

-- sorting and filtering commute
pub in_order-filter : (f : Item → Bool) (xs : List Item) → in_order (filter f xs) ≡ filter f (in_order xs)
in_order-filter f [] = refl
in_order-filter f (x ∷ xs) = elim (cases_Bool (f x)) [
  | inl t ↦ rw (t, in_order-filter f xs) (sym (filter_insert_in f x (in_order xs) t (in_order_sorted xs)))
  | inr t ↦ rw (t, in_order-filter f xs) (sym (filter_insert_out f x (in_order xs) t))
]

-- ---- members ----
pub least_at : (x : Item) (ys : List Item) (y : Item) → Least x ys → In y ys → lower y x ≡ false
least_at x [] y h i = absurd i
least_at x (z ∷ zs) y h i = elim i [ inl e ↦ rw e h.0 | inr j ↦ least_at x zs y h.1 j ]

pub in_insert : (x y : Item) (zs : List Item) → In x (insert_by_stamp y zs) → (x ≡ y) ⊎ In x zs
in_insert x y [] i = i
in_insert x y (z ∷ zs) i = elim (cases_Bool (lower z y)) [
  | inl t ↦ elim (rw t at i) [ inl e ↦ inr (inl e) | inr j ↦ elim (in_insert x y zs j) [ inl a ↦ inl a | inr b ↦ inr (inr b) ] ]
  | inr t ↦ rw t at i
]

pub insert_in : (x y : Item) (zs : List Item) → (x ≡ y) ⊎ In x zs → In x (insert_by_stamp y zs)
insert_in x y [] i = i
insert_in x y (z ∷ zs) i = elim (cases_Bool (lower z y)) [
  | inl t ↦ rw t (elim i [ inl e ↦ inr (insert_in x y zs (inl e)) | inr j ↦ elim j [ inl a ↦ inl a | inr b ↦ inr (insert_in x y zs (inr b)) ] ])
  | inr t ↦ rw t i
]

pub in_in_order : (x : Item) (ys : List Item) → In x (in_order ys) → In x ys
in_in_order x [] i = i
in_in_order x (y ∷ ys) i = elim (in_insert x y (in_order ys) i) [ inl e ↦ inl e | inr j ↦ inr (in_in_order x ys j) ]

pub in_order_in : (x : Item) (ys : List Item) → In x ys → In x (in_order ys)
in_order_in x [] i = i
in_order_in x (y ∷ ys) i = insert_in x y (in_order ys) (elim i [ inl e ↦ inl e | inr j ↦ inr (in_order_in x ys j) ])
