-- One more item behind others.
use Rattle.std.proofs.Common.{◌≡◌, ◌≢◌, ℕ, zero, suc, ◌+◌, ◌-◌, ◌<◌, ◌≤◌, ◌==◌, cond, List, [], ◌∷◌, ◌++◌, length, map, filter, get_or, slice_get, slice_index, replicate, All, Some, set, true, false, ap, sym, ◌∙◌, subst, arith, inl, inr, add-one, append-nil, length-append}
use Rattle.std.proofs.Math.ListN.{get_or-append}
use Rattle.std.proofs.Math.Seq.{get_or-append_seam}
use Rattle.std.specs.List.{range_with_len}
use Rattle.std.specs.List.Sorted.{IsStrictlyIncreasing}
use Rattle.std.proofs.lemmas.Bool.Decides.{nat_tests, eqb_tells}
use Rattle.std.proofs.lemmas.Bool.{cases_lt}
use Rattle.std.proofs.lemmas.Grind.{get_or-set_at}
use Rattle.std.proofs.lemmas.List.{map-append, get_or-set_other, get_or-replicate, length-replicate, length-set}
use Rattle.std.proofs.lemmas.List.FromFn.{length-range_with_len}
use Rattle.std.proofs.lemmas.Option.{slice_get_within}
use Rattle.std.proofs.lemmas.List.Elements.{filter-append, All-nil, All-cons, All-head, All-tail, All-append, All-weaker, All-map, All-get_or}
use Rattle.rl_base.specs.Stamps.{packed}
use Rattle.rl_txn.specs.Serial.{indexes_of, numbered, IsInLists}
use Rattle.rl_txn.specs.declared.item.Item.{Item}
use Rattle.rl_txn.proofs.Folds.{range_push}
use Rattle.rl_check.specs.Counts.{IsGreatest, CountsItems}

-- what holds of two lists holds of the second
pub All_right : {X : Type 0} (P : X → Type 0) → (xs ys : List X) → All P (xs ++ ys) → All P ys
All_right P [] ys all = all
All_right P (x ∷ xs) ys all = All_right P xs ys (All-tail P x (xs ++ ys) all)

-- and of the first
pub All_left : {X : Type 0} (P : X → Type 0) → (xs ys : List X) → All P (xs ++ ys) → All P xs
All_left P [] ys all = All-nil P
All_left P (x ∷ xs) ys all = All-cons P x xs (All-head P x (xs ++ ys) all) (All_left P xs ys (All-tail P x (xs ++ ys) all))

-- ---- indexes ----

indexes_push : (w : ℕ) (items : List Item) (item : Item) → indexes_of w (items ++ item ∷ []) ≡ indexes_of w items ++ indexes_of w (item ∷ [])
indexes_push w items item =
    ap (map (λ (i : Item). i.index)) (filter-append (λ (i : Item). i.worker == w) items (item ∷ []))
    ∙ map-append (λ (i : Item). i.index) (filter (λ (i : Item). i.worker == w) items) (filter (λ (i : Item). i.worker == w) (item ∷ []))

-- the indexes of the worker of one more item
pub indexes_own : (w : ℕ) (items : List Item) (item : Item) → item.worker ≡ w → indexes_of w (items ++ item ∷ []) ≡ indexes_of w items ++ item.index ∷ []
indexes_own w items item own =
    let test : (item.worker == w) ≡ true = grind (arith, nat_tests) in
    indexes_push w items item ∙ ap (λ b. indexes_of w items ++ map (λ (i : Item). i.index) (cond b (item ∷ []) [])) test

-- those of another
pub indexes_other : (w : ℕ) (items : List Item) (item : Item) → item.worker ≢ w → indexes_of w (items ++ item ∷ []) ≡ indexes_of w items
indexes_other w items item other =
    let test : (item.worker == w) ≡ false = grind (arith, nat_tests) in
    indexes_push w items item ∙ ap (λ b. indexes_of w items ++ map (λ (i : Item). i.index) (cond b (item ∷ []) [])) test ∙ append-nil (indexes_of w items)

pub count_own : (w : ℕ) (items : List Item) (item : Item) → item.worker ≡ w → length (indexes_of w (items ++ item ∷ [])) ≡ length (indexes_of w items) + 1
count_own w items item own = ap length (indexes_own w items item own) ∙ length-append (indexes_of w items) (item.index ∷ [])

-- one more item that is of the next request of its list
pub in_lists_more : (items : List Item) (item : Item) → IsInLists items → item.index ≡ length (indexes_of item.worker items) + 1 → IsInLists (items ++ item ∷ [])
in_lists_more items item is next = λ w. elim (eqb_tells item.worker w) [
  | inl (test, same) ↦
      let n = length (indexes_of w items) in
      let index : item.index ≡ 1 + n = next ∙ ap (λ v. length (indexes_of v items) + 1) same ∙ omega arith in
      let range : range_with_len 1 (n + 1) ≡ range_with_len 1 n ++ (1 + n) ∷ [] = rw add-one (range_push 1 n) in
      indexes_own w items item same ∙ ap (λ xs. xs ++ item.index ∷ []) (is w) ∙ ap (λ i. range_with_len 1 n ++ i ∷ []) index ∙ sym range
      ∙ ap (range_with_len 1) (sym (count_own w items item same))
  | inr (test, differ) ↦
      let same = indexes_other w items item differ in
      same ∙ is w ∙ ap (λ xs. range_with_len 1 (length xs)) (sym same)
]

-- ---- stamps ----

-- the stamps rise with one more that is above all
pub rising_more : (items : List Item) (item : Item) → IsStrictlyIncreasing (map (λ (i : Item). packed i.stamp) items) → All (λ (i : Item). packed i.stamp < packed item.stamp) items
    → IsStrictlyIncreasing (map (λ (i : Item). packed i.stamp) (items ++ item ∷ []))
rising_more items item rise above =
    subst IsStrictlyIncreasing (sym (map-append (λ (i : Item). packed i.stamp) items (item ∷ [])))
    (onto (map (λ (i : Item). packed i.stamp) items) (packed item.stamp) rise (All-map (λ n. n < packed item.stamp) (λ (i : Item). packed i.stamp) items above))
  where
    onto : (xs : List ℕ) (x : ℕ) → IsStrictlyIncreasing xs → All (λ n. n < x) xs → IsStrictlyIncreasing (xs ++ x ∷ [])
    onto xs x rise below k within = elim (cases_lt (k + 1) (length xs)) [
      | inl l ↦
          let one : get_or (xs ++ x ∷ []) k 0 ≡ get_or xs k 0 = get_or-append xs (x ∷ []) 0 k (omega arith) in
          let two : get_or (xs ++ x ∷ []) (k + 1) 0 ≡ get_or xs (k + 1) 0 = get_or-append xs (x ∷ []) 0 (k + 1) l in
          let less : get_or xs k 0 < get_or xs (k + 1) 0 = rise k l in
          omega arith
      | inr g ↦
          let last : k + 1 ≡ length xs = omega (arith, length-append xs (x ∷ []), within, g) in
          let one : get_or (xs ++ x ∷ []) k 0 ≡ get_or xs k 0 = get_or-append xs (x ∷ []) 0 k (omega arith) in
          let two : get_or (xs ++ x ∷ []) (k + 1) 0 ≡ x = ap (λ n. get_or (xs ++ x ∷ []) n 0) last ∙ get_or-append_seam xs x [] 0 in
          let less : get_or xs k 0 < x = All-get_or (λ n. n < x) xs k 0 (omega arith) below in
          omega arith
    ]

-- the stamp of one more item, which is above all, is the greatest
pub greatest_more : (items : List Item) (item : Item) → All (λ (i : Item). packed i.stamp < packed item.stamp) items → IsGreatest (items ++ item ∷ []) (packed item.stamp)
greatest_more items item above = record {
  below = All-append (λ (i : Item). packed i.stamp ≤ packed item.stamp) items (item ∷ [])
      (All-weaker (λ (i : Item). packed i.stamp < packed item.stamp) (λ (i : Item). packed i.stamp ≤ packed item.stamp) (λ i l. omega (arith, l)) items above)
      (All-cons (λ (i : Item). packed i.stamp ≤ packed item.stamp) item [] (omega arith) (All-nil (λ (i : Item). packed i.stamp ≤ packed item.stamp)));
  least = λ bound some all. All-head (λ (i : Item). packed i.stamp < bound) item [] (All_right (λ (i : Item). packed i.stamp < bound) items (item ∷ []) all);
}

pub greatest_none : IsGreatest [] 0
greatest_none = record {
  below = All-nil (λ (i : Item). packed i.stamp ≤ 0);
  least = λ bound some all. some;
}

-- ---- counts ----

pub counts_none : (n : ℕ) → CountsItems n [] (replicate n 0)
counts_none n = record {
  one_each = length-replicate n 0;
  each = λ w l. get_or-replicate n w 0 0 l;
}

-- the counts with one more item, which is the next of its worker
pub counts_more : (n : ℕ) (items : List Item) (counts : List ℕ) (item : Item) → CountsItems n items counts → 1 ≤ item.worker → item.worker ≤ n → item.index ≡ length (indexes_of item.worker items) + 1
    → CountsItems n (items ++ item ∷ []) (set counts (item.worker - 1) item.index)
counts_more n items counts item is some few next = record {
  one_each = length-set counts (item.worker - 1) item.index ∙ is.one_each;
  each = λ w l. elim (eqb_tells item.worker (w + 1)) [
    | inl (test, same) ↦
        let at : w ≡ item.worker - 1 = omega arith in
        get_or-set_at counts (item.worker - 1) w item.index 0 at (omega (arith, is.one_each))
        ∙ next ∙ ap (λ v. length (indexes_of v items) + 1) same ∙ sym (count_own (w + 1) items item same)
    | inr (test, differ) ↦
        let other : w ≢ item.worker - 1 = λ e. differ (omega (arith, e)) in
        get_or-set_other counts (item.worker - 1) w item.index 0 other ∙ is.each w l ∙ sym (ap (λ (xs : List ℕ). length xs) (indexes_other (w + 1) items item differ))
  ];
}

-- where each list has as many items as requests, all requests have one
pub whole_by_counts : {X : Type 0} → (lists : List (List X)) (items : List Item) (counts : List ℕ) → IsInLists items → CountsItems (length lists) items counts
    → ((w : ℕ) → w < length lists → (list : List X) → slice_get lists w ≡ Some list → length list ≡ slice_index counts w)
    → (worker : ℕ) (list : List X) → numbered lists worker ≡ Some list → indexes_of worker items ≡ range_with_len 1 (length list)
whole_by_counts lists items counts is counted same zero list at = cc
whole_by_counts lists items counts is counted same (suc w) list at =
    let within = slice_get_within lists w list at in
    let one : w + 1 ≡ suc w = omega arith in
    let count : length list ≡ length (indexes_of (suc w) items) = same w within list at ∙ counted.each w within ∙ ap (λ v. length (indexes_of v items)) one in
    is (suc w) ∙ ap (range_with_len 1) (sym count)

-- where one has not, a request has none
pub not_whole : {X : Type 0} → (lists : List (List X)) (items : List Item) (counts : List ℕ) → CountsItems (length lists) items counts → (w : ℕ) → w < length lists → (list : List X) → slice_get lists w ≡ Some list
    → length list ≢ slice_index counts w → ((worker : ℕ) (list : List X) → numbered lists worker ≡ Some list → indexes_of worker items ≡ range_with_len 1 (length list)) → ⊥
not_whole lists items counts counted w within list at other whole =
    let one : w + 1 ≡ suc w = omega arith in
    other (sym (counted.each w within ∙ ap (λ v. length (indexes_of v items)) one ∙ ap length (whole (suc w) list at) ∙ length-range_with_len 1 (length list)))
