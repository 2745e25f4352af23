-- A replica's rows are what its items leave in the order of their stamps, in whatever order it applied them.
use Rattle.std.proofs.Common.{◌≡◌, ◌≢◌, ℕ, List, [], ◌∷◌, ◌++◌, length, get_or, Bool, true, false, cond, not, ◌||◌, ◌&&◌, Option, Some, None, refl, sym, ap, ◌∙◌, subst, arith, inl, inr}
use Rattle.std.specs.List.{list_any}
use Rattle.std.specs.Prelude.{option_to_list}
use Rattle.std.specs.FinMap.{get}
use Rattle.std.proofs.lemmas.List.{append-nil, get_or_append_left, get_or_at, length-append}
use Rattle.std.proofs.lemmas.Bool.Decides.{nat_tests}
use Rattle.std.proofs.lemmas.Bool.{cases_Bool}
use Rattle.rl_base.specs.declared.stamp.Stamp.{Stamp}
use Rattle.rl_value.specs.Rows.{Rows}
use Rattle.rl_txn.specs.declared.item.Item.{Item}
use Rattle.rl_txn.specs.declared.write.Write.{Write}
use Rattle.rl_txn.specs.Serial.{after_writes, rows_after}
use Rattle.rl_base.specs.Order.{is_below}
use Rattle.rl_families.specs.Order.{insert_by_stamp, in_order}
use Rattle.rl_base.proofs.Members.{In, in_contains}
use Rattle.rl_families.proofs.Sorting.{lower, Sorted, in_order_sorted, lower_one_way, least_trans, least_at, in_in_order}
use Rattle.rl_base.proofs.OrderLemmas.{below_other}
use Rattle.rl_replay.specs.Replay.{is_at, writes_at, is_overwritten, newest_writes, writes_made, AreDistinct}
use Rattle.rl_replay.proofs.Places.{same_rows, written, get-after_writes, left_by, get-rows_after, left_over, left_not, written-filter_all, written-filter_none, at_same}

-- no item of a list has this stamp
abbrev pub Free : Stamp → List Item → Type 0
Free s xs = (y : Item) → In y xs → y.stamp ≢ s

-- ---- putting an item in order ----
insert_after : (x y : Item) (ys : List Item) → lower y x ≡ true → insert_by_stamp x (y ∷ ys) ≡ y ∷ insert_by_stamp x ys
insert_after x y ys t = ap (λ b. cond b (y ∷ insert_by_stamp x ys) (x ∷ y ∷ ys)) t

insert_here : (x y : Item) (ys : List Item) → lower y x ≡ false → insert_by_stamp x (y ∷ ys) ≡ x ∷ y ∷ ys
insert_here x y ys t = ap (λ b. cond b (y ∷ insert_by_stamp x ys) (x ∷ y ∷ ys)) t

-- a lower item before a higher one
insert_pair : (x y : Item) (zs : List Item) → lower x y ≡ true → insert_by_stamp x (insert_by_stamp y zs) ≡ insert_by_stamp y (insert_by_stamp x zs)
insert_pair x y [] t = insert_here x y [] (lower_one_way x y t) ∙ sym (insert_after y x [] t)
insert_pair x y (z ∷ zs) t = elim (cases_Bool (lower z x)) [
  | inl b ↦ (let a : lower z y ≡ true = up x y z t b in
      ap (insert_by_stamp x) (insert_after y z zs a) ∙ insert_after x z (insert_by_stamp y zs) b ∙ ap (λ l. z ∷ l) (insert_pair x y zs t) ∙ sym (ap (insert_by_stamp y) (insert_after x z zs b) ∙ insert_after y z (insert_by_stamp x zs) a))
  | inr b ↦ elim (cases_Bool (lower z y)) [
    | inl a ↦ ap (insert_by_stamp x) (insert_after y z zs a) ∙ insert_here x z (insert_by_stamp y zs) b ∙ ap (λ l. x ∷ l) (sym (insert_after y z zs a)) ∙ sym (ap (insert_by_stamp y) (insert_here x z zs b) ∙ insert_after y x (z ∷ zs) t)
    | inr a ↦ ap (insert_by_stamp x) (insert_here y z zs a) ∙ insert_here x y (z ∷ zs) (lower_one_way x y t) ∙ ap (λ l. x ∷ l) (sym (insert_here y z zs a)) ∙ sym (ap (insert_by_stamp y) (insert_here x z zs b) ∙ insert_after y x (z ∷ zs) t)
  ]
]
  where
    up : (x y z : Item) → lower x y ≡ true → lower z x ≡ true → lower z y ≡ true
    up x y z p q = grind (arith, nat_tests)

insert_comm : (x y : Item) (zs : List Item) → x.stamp ≢ y.stamp → insert_by_stamp x (insert_by_stamp y zs) ≡ insert_by_stamp y (insert_by_stamp x zs)
insert_comm x y zs n = elim (cases_Bool (lower y x)) [
  | inl t ↦ sym (insert_pair y x zs t)
  | inr t ↦ insert_pair x y zs (below_other x.stamp y.stamp t (λ e. n (sym e)))
]

pub in_order-push : (xs : List Item) (x : Item) → Free x.stamp xs → in_order (xs ++ x ∷ []) ≡ insert_by_stamp x (in_order xs)
in_order-push [] x f = refl
in_order-push (y ∷ ys) x f = ap (insert_by_stamp y) (in_order-push ys x (λ z i. f z (inr i))) ∙ insert_comm y x (in_order ys) (f y (inl refl))

-- a test of some item does not look at the order
any_insert : (f : Item → Bool) (x : Item) (ys : List Item) → list_any f (insert_by_stamp x ys) ≡ (f x || list_any f ys)
any_insert f x [] = refl
any_insert f x (y ∷ ys) = elim (cases_Bool (lower y x)) [
  | inl t ↦ ap (list_any f) (insert_after x y ys t) ∙ ap (λ b. f y || b) (any_insert f x ys) ∙ swap (f y) (f x) (list_any f ys)
  | inr t ↦ ap (list_any f) (insert_here x y ys t)
]
  where
    swap : (a b c : Bool) → (a || (b || c)) ≡ (b || (a || c))
    swap true true c = refl
    swap true false c = refl
    swap false b c = refl

pub any-in_order : (f : Item → Bool) (xs : List Item) → list_any f (in_order xs) ≡ list_any f xs
any-in_order f [] = refl
any-in_order f (x ∷ xs) = any_insert f x (in_order xs) ∙ ap (λ b. f x || b) (any-in_order f xs)

-- ---- one more item, at one place ----
module _ (x : Item) (q : ℕ × ℕ) where
  overwrites : Item → Bool
  overwrites y = is_below x.stamp y.stamp && writes_at q y

  -- what stands at the place once the item is put in order: nothing new where a greater stamp has written there
  abbrev step : Bool → Option (List ℕ) → Option (List ℕ)
  step b row = cond b row (written row q x.writes)

  all_above : (zs : List Item) → ((z : Item) → In z zs → is_below x.stamp z.stamp ≡ true) → list_any (λ (z : Item). is_below x.stamp z.stamp && writes_at q z) zs ≡ list_any (λ (z : Item). list_any (is_at q) z.writes) zs
  all_above [] h = refl
  all_above (z ∷ zs) h = ap (λ b. (b && writes_at q z) || list_any (λ (y : Item). is_below x.stamp y.stamp && writes_at q y) zs) (h z (inl refl)) ∙ ap (λ b. writes_at q z || b) (all_above zs (λ y i. h y (inr i)))

  pub left_insert : (zs : List Item) (row : Option (List ℕ)) → Sorted zs → Free x.stamp zs
      → left_by row q (insert_by_stamp x zs) ≡ step (list_any (λ (z : Item). is_below x.stamp z.stamp && writes_at q z) zs) (left_by row q zs)
  left_insert [] row s f = refl
  left_insert (z ∷ zs) row s f = elim (cases_Bool (lower z x)) [
    | inl t ↦ ap (left_by row q) (insert_after x z zs t) ∙ left_insert zs (written row q z.writes) s.1 (λ y i. f y (inr i))
        ∙ ap (λ b. step ((b && writes_at q z) || list_any (λ (y : Item). is_below x.stamp y.stamp && writes_at q y) zs) (left_by (written row q z.writes) q zs)) (sym (lower_one_way z x t))
    | inr t ↦ (let above : (y : Item) → In y (z ∷ zs) → is_below x.stamp y.stamp ≡ true = λ y i. below_other x.stamp y.stamp (least_at x (z ∷ zs) y (t, least_trans x z zs t s.0) i) (f y i) in
        let same = all_above (z ∷ zs) above in
        ap (left_by row q) (insert_here x z zs t) ∙ elim (cases_Bool (list_any (λ (y : Item). list_any (is_at q) y.writes) (z ∷ zs))) [
          | inl u ↦ left_over q (z ∷ zs) (written row q x.writes) row u ∙ ap (λ b. step b (left_by row q (z ∷ zs))) (sym (same ∙ u))
          | inr u ↦ left_not q (z ∷ zs) (written row q x.writes) u ∙ ap (λ r. written r q x.writes) (sym (left_not q (z ∷ zs) row u)) ∙ ap (λ b. step b (left_by row q (z ∷ zs))) (sym (same ∙ u))
        ])
  ]

  -- and what stands there once its newest writes are made
  pub written_newest : (applied : List Item) (row : Option (List ℕ)) → written row q (newest_writes applied x) ≡ step (is_overwritten applied x.stamp q) row
  written_newest applied row = elim (cases_Bool (is_overwritten applied x.stamp q)) [
    | inl t ↦ written-filter_none (λ (w : Write). not (is_overwritten applied x.stamp (w.table, w.key))) q x.writes row (λ w a. ap (λ (p : ℕ × ℕ). not (is_overwritten applied x.stamp p)) (sym (at_same q w a)) ∙ ap not t) ∙ ap (λ b. step b row) (sym t)
    | inr t ↦ written-filter_all (λ (w : Write). not (is_overwritten applied x.stamp (w.table, w.key))) q x.writes row (λ w a. ap (λ (p : ℕ × ℕ). not (is_overwritten applied x.stamp p)) (sym (at_same q w a)) ∙ ap not t) ∙ ap (λ b. step b row) (sym t)
  ]

-- ---- distinct stamps ----
pub distinct_front : (xs ys : List Item) → AreDistinct (xs ++ ys) → AreDistinct xs
distinct_front xs ys h i j d a l = subst (λ z. z.stamp ≢ (get_or xs j d).stamp) (get_or_append_left xs ys d i (omega arith))
    (subst (λ z. (get_or (xs ++ ys) i d).stamp ≢ z.stamp) (get_or_append_left xs ys d j l) (h i j d a (omega (arith, length-append xs ys))))

pub distinct_last : (xs : List Item) (x : Item) → AreDistinct (xs ++ x ∷ []) → Free x.stamp xs
distinct_last xs x h y i =
    let k = in_contains xs y i in
    subst (λ (z : Item). z.stamp ≢ x.stamp) (get_or_append_left xs (x ∷ []) y k.0 k.1 ∙ k.2)
    (subst (λ (z : Item). (get_or (xs ++ x ∷ []) k.0 y).stamp ≢ z.stamp) (get_or_at xs x [] y (length xs) refl) (h k.0 (length xs) y k.1 (omega (arith, length-append xs (x ∷ [])))))

-- ---- the rows ----
pub rows_more : (opening rows : Rows) (applied : List Item) (x : Item) → AreDistinct (applied ++ x ∷ []) → (AreDistinct applied → rows ≡ rows_after opening (in_order applied))
    → after_writes rows (newest_writes applied x) ≡ rows_after opening (in_order (applied ++ x ∷ []))
rows_more opening rows applied x d h =
    let free = distinct_last applied x d in
    let was = h (distinct_front applied (x ∷ []) d) in
    same_rows (after_writes rows (newest_writes applied x)) (rows_after opening (in_order (applied ++ x ∷ []))) (λ q.
    get-after_writes rows (newest_writes applied x) q ∙ written_newest x q applied (get rows q)
    ∙ ap (λ b. step x q b (get rows q)) (sym (any-in_order (λ (y : Item). is_below x.stamp y.stamp && writes_at q y) applied))
    ∙ ap (step x q (list_any (λ (y : Item). is_below x.stamp y.stamp && writes_at q y) (in_order applied))) (ap (λ m. get m q) was ∙ get-rows_after opening (in_order applied) q)
    ∙ sym (get-rows_after opening (in_order (applied ++ x ∷ [])) q ∙ ap (left_by (get opening q) q) (in_order-push applied x free)
    ∙ left_insert x q (in_order applied) (get opening q) (in_order_sorted applied) (λ y i. free y (in_in_order y applied i))))

-- after an entry that added an item or none
pub replays : (opening rows : Rows) (applied : List Item) (o : Option Item) → (AreDistinct applied → rows ≡ rows_after opening (in_order applied))
    → AreDistinct (applied ++ option_to_list o) → after_writes rows (writes_made applied (option_to_list o)) ≡ rows_after opening (in_order (applied ++ option_to_list o))
replays opening rows applied None h d = h (distinct_front applied [] d) ∙ ap (λ z. rows_after opening (in_order z)) (sym (append-nil applied))
replays opening rows applied (Some x) h d = rows_more opening rows applied x d h
