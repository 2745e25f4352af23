-- One more item after others.
use Rattle.std.proofs.Common.{◌≢◌, get_or, append-nil, append_assoc, ◌≡◌, ℕ, ◌+◌, ◌*◌, ◌<◌, ◌≤◌, ◌^◌, ◌==◌, Bool, true, false, cond, List, [], ◌∷◌, ◌++◌, length, map, filter, take, slice_get, get_or, Some, IsSomeAnd, refl, ap, sym, ◌∙◌, subst, arith, zero, suc, add-one, length-append, sum_by, inl, inr}
use Rattle.std.specs.List.{range_with_len}
use Rattle.std.specs.List.Sorted.{IsStrictlyIncreasing}
use Rattle.std.specs.Option.{option_and_then}
use Rattle.std.proofs.lemmas.List.FromFn.{length-range_with_len, length-map-range_with_len, get_or-map-range_with_len}
use Rattle.std.proofs.lemmas.List.Elements.{filter-append}
use Rattle.std.proofs.lemmas.List.Sums.{sum_by-cons}
use Rattle.std.proofs.lemmas.Bool.Decides.{nat_tests, eqb_tells}
use Rattle.std.proofs.lemmas.List.{map-append, take_more, length-take-le, length-map}
use Rattle.rl_base.specs.Stamps.{packed}
use Rattle.rl_base.specs.declared.stamp.Stamp.{Stamp}
use Rattle.rl_value.specs.Rows.{Rows}
use Rattle.rl_value.specs.Tables.{Table}
use Rattle.rl_txn.specs.Run.{run}
use Rattle.rl_txn.specs.Serial.{after_writes, rows_after, numbered, request_of, Runs, indexes_of, requests_from, IsListByList}
use Rattle.rl_txn.specs.declared.op.Op.{Op}
use Rattle.rl_txn.specs.declared.item.Item.{Item}
use Rattle.rl_txn.proofs.Folds.{rows_after-append, range_push}

abbrev Requests : Type 0
Requests = List (List (List Op))

-- one more item after others that ran
pub runs_push : (tables : List Table) (lists : Requests) (rows : Rows) (items : List Item) (item : Item) (txn : List Op) → Runs tables lists rows items → request_of lists item ≡ Some txn
    → run tables txn (rows_after rows items) ≡ (item.reply, item.writes) → Runs tables lists rows (items ++ item ∷ [])
runs_push tables lists rows [] item txn runs is ran = (subst (λ o. IsSomeAnd o (λ t. run tables t rows ≡ (item.reply, item.writes))) (sym is) ran, tt)
runs_push tables lists rows (x ∷ items) item txn runs is ran = (runs.0, runs_push tables lists (after_writes rows x.writes) items item txn runs.1 is ran)

-- the worker and the index of an item, and its stamp
abbrev pub name_of : Item → ℕ × ℕ
name_of item = (item.worker, item.index)

abbrev pub stamp_of : Item → ℕ × ℕ
stamp_of item = (item.stamp.epoch, item.stamp.seq)

abbrev pub stamps_upto : ℕ → List (ℕ × ℕ)
stamps_upto count = map {B = ℕ × ℕ} (λ seq. (1, seq)) (range_with_len 2 count)

-- the requests of a worker up to a number
abbrev pub names_upto : ℕ → ℕ → List (ℕ × ℕ)
names_upto worker count = map {B = ℕ × ℕ} (λ index. (worker, index)) (range_with_len 1 count)

map_range_push : {X : Type 0} (f : ℕ → X) (a n : ℕ) → map f (range_with_len a (n + 1)) ≡ map f (range_with_len a n) ++ f (a + n) ∷ []
map_range_push f a n = rw add-one (ap (map f) (range_push a n) ∙ map-append f (range_with_len a n) ((a + n) ∷ []))

names_push : (worker count : ℕ) → names_upto worker (count + 1) ≡ names_upto worker count ++ (worker, count + 1) ∷ []
names_push worker count =
    map_range_push {X = ℕ × ℕ} (λ index. (worker, index)) 1 count ∙ ap (λ index. names_upto worker count ++ (worker, index) ∷ []) (omega arith)

-- the requests of one more list
requests_push : (worker : ℕ) (lists : Requests) (list : List (List Op)) → requests_from worker (lists ++ list ∷ []) ≡ requests_from worker lists ++ names_upto (worker + length lists) (length list)
requests_push worker [] list = append-nil (names_upto worker (length list)) ∙ ap (λ w. names_upto w (length list)) (omega arith)
requests_push worker (x ∷ lists) list =
    ap (λ more. names_upto worker (length x) ++ more) (requests_push (worker + 1) lists list ∙ ap (λ w. requests_from (worker + 1) lists ++ names_upto w (length list)) (omega arith))
    ∙ sym (append_assoc (names_upto worker (length x)) (requests_from (worker + 1) lists) (names_upto (worker + length (x ∷ lists)) (length list)))

-- some requests are done: their items, and the rows after them
pub record AreDone (tables : List Table) (lists : Requests) (opening : Rows) (done : List (ℕ × ℕ)) (items : List Item) (rows : Rows) : Type 0 where
  pub names : map name_of items ≡ done
  pub stamps : map stamp_of items ≡ stamps_upto (length items)
  pub runs : Runs tables lists opening items
  pub rows_are : rows ≡ rows_after opening items

pub none_done : (tables : List Table) (lists : Requests) (opening : Rows) → AreDone tables lists opening [] [] opening
none_done tables lists opening = record { names = refl; stamps = refl; runs = tt; rows_are = refl }

-- one more is done
pub one_done : (tables : List Table) (lists : Requests) (opening : Rows) (done : List (ℕ × ℕ)) (items : List Item) (rows : Rows) (item : Item) (txn : List Op) (worker index : ℕ) → AreDone tables lists opening done items rows
    → item.stamp ≡ record { epoch = 1; seq = length items + 2 } → item.worker ≡ worker → item.index ≡ index → request_of lists item ≡ Some txn → run tables txn rows ≡ (item.reply, item.writes)
    → AreDone tables lists opening (done ++ (worker, index) ∷ []) (items ++ item ∷ []) (after_writes rows item.writes)
one_done tables lists opening done items rows item txn worker index so_far stamp of_worker of_index request ran =
    let seq : length items + 2 ≡ 2 + length items = omega arith in
    let pair : name_of item ≡ (worker, index) = ap (λ (w : ℕ). (w, item.index)) of_worker ∙ ap (λ (i : ℕ). (worker, i)) of_index in
    let stamped : stamp_of item ≡ (1, 2 + length items) = ap (λ (s : Stamp). (s.epoch, s.seq)) stamp ∙ ap (λ (n : ℕ). (1, n)) seq in
    let count : length (items ++ item ∷ []) ≡ length items + 1 = length-append items (item ∷ []) in
    record {
      names = map-append name_of items (item ∷ []) ∙ ap (λ names. names ++ name_of item ∷ []) so_far.names ∙ ap (λ (p : ℕ × ℕ). done ++ p ∷ []) pair;
      stamps = map-append stamp_of items (item ∷ []) ∙ ap (λ stamps. stamps ++ stamp_of item ∷ []) so_far.stamps ∙ ap (λ (p : ℕ × ℕ). stamps_upto (length items) ++ p ∷ []) stamped
          ∙ sym (map_range_push {X = ℕ × ℕ} (λ seq. (1, seq)) 2 (length items)) ∙ ap stamps_upto (sym count);
      runs = runs_push tables lists opening items item txn so_far.runs request (ap (run tables txn) (sym so_far.rows_are) ∙ ran);
      rows_are = ap (λ r. after_writes r item.writes) so_far.rows_are ∙ sym (rows_after-append opening items (item ∷ []));
    }

-- the next request of a list that is being done
pub next_done : (tables : List Table) (lists : Requests) (opening : Rows) (before : Requests) (items : List Item) (rows : Rows) (item : Item) (list : List (List Op)) (txn : List Op) (worker index : ℕ)
    → AreDone tables lists opening (requests_from 1 before ++ names_upto (worker + 1) index) items rows → slice_get lists worker ≡ Some list → slice_get list index ≡ Some txn
    → item.stamp ≡ record { epoch = 1; seq = length items + 2 } → item.worker ≡ worker + 1 → item.index ≡ index + 1 → run tables txn rows ≡ (item.reply, item.writes)
    → AreDone tables lists opening (requests_from 1 before ++ names_upto (worker + 1) (index + 1)) (items ++ item ∷ []) (after_writes rows item.writes)
next_done tables lists opening before items rows item list txn worker index so_far at at_index stamp of_worker of_index ran =
    let w : item.worker ≡ suc worker = omega arith in
    let i : item.index ≡ suc index = omega arith in
    let request : request_of lists item ≡ Some txn =
    ap (λ n. option_and_then (λ list. numbered list item.index) (numbered lists n)) w ∙ ap (option_and_then (λ list. numbered list item.index)) at ∙ ap (numbered list) i ∙ at_index in
    subst (λ done. AreDone tables lists opening done (items ++ item ∷ []) (after_writes rows item.writes))
    (append_assoc (requests_from 1 before) (names_upto (worker + 1) index) ((worker + 1, index + 1) ∷ []) ∙ ap (λ names. requests_from 1 before ++ names) (sym (names_push (worker + 1) index)))
    (one_done tables lists opening (requests_from 1 before ++ names_upto (worker + 1) index) items rows item txn (worker + 1) (index + 1) so_far stamp of_worker of_index request ran)

-- a list that is about to be done
pub list_begun : (tables : List Table) (lists : Requests) (opening : Rows) (before : Requests) (items : List Item) (rows : Rows) (worker : ℕ) → AreDone tables lists opening (requests_from 1 before) items rows
    → AreDone tables lists opening (requests_from 1 before ++ names_upto worker 0) items rows
list_begun tables lists opening before items rows worker so_far = subst (λ done. AreDone tables lists opening done items rows) (sym (append-nil (requests_from 1 before))) so_far

-- a list that is done
pub list_done : (tables : List Table) (lists : Requests) (opening : Rows) (items : List Item) (rows : Rows) (list : List (List Op)) (worker : ℕ) → worker < length lists → list ≡ get_or lists worker list
    → AreDone tables lists opening (requests_from 1 (take worker lists) ++ names_upto (worker + 1) (length list)) items rows → AreDone tables lists opening (requests_from 1 (take (worker + 1) lists)) items rows
list_done tables lists opening items rows list worker within at so_far =
    let taken : length (take worker lists) ≡ worker = length-take-le worker lists (omega arith) in
    let next : worker + 1 ≡ 1 + length (take worker lists) = omega arith in
    subst (λ done. AreDone tables lists opening done items rows)
    (ap (λ w. requests_from 1 (take worker lists) ++ names_upto w (length list)) next ∙ sym (requests_push 1 (take worker lists) list)
    ∙ ap (requests_from 1) (ap (λ x. take worker lists ++ x ∷ []) at ∙ sym (take_more lists worker list within)))
    so_far

-- the items of the requests before one are fewer than all requests
pub few_done : (tables : List Table) (lists : Requests) (opening : Rows) (items : List Item) (rows : Rows) (list : List (List Op)) (worker index : ℕ) → worker < length lists → slice_get lists worker ≡ Some list → index < length list
    → AreDone tables lists opening (requests_from 1 (take worker lists) ++ names_upto (worker + 1) index) items rows → length items < sum_by (λ l. length l) lists
few_done tables lists opening items rows list worker index within at below so_far =
    let names : length items ≡ length (requests_from 1 (take worker lists) ++ names_upto (worker + 1) index) = sym (length-map items name_of) ∙ ap length so_far.names in
    omega (arith, length-append (requests_from 1 (take worker lists)) (names_upto (worker + 1) index), length-requests 1 (take worker lists), length-map-range_with_len {X = ℕ × ℕ} (λ i. (worker + 1, i)) 1 index, sums_upto lists worker list at)
  where
    length-requests : (v : ℕ) (ls : Requests) → length (requests_from v ls) ≡ sum_by (λ l. length l) ls
    length-requests v [] = refl
    length-requests v (l ∷ ls) =
        let parts : length (requests_from v (l ∷ ls)) ≡ length (names_upto v (length l)) + length (requests_from (v + 1) ls) = length-append (names_upto v (length l)) (requests_from (v + 1) ls) in
        parts ∙ ap (λ n. n + length (requests_from (v + 1) ls)) (length-map-range_with_len {X = ℕ × ℕ} (λ i. (v, i)) 1 (length l)) ∙ ap (λ n. length l + n) (length-requests (v + 1) ls) ∙ sym (sum_by-cons (λ l. length l) l ls)

    sums_upto : (ls : Requests) (w : ℕ) (l : List (List Op)) → slice_get ls w ≡ Some l → sum_by (λ l. length l) (take w ls) + length l ≤ sum_by (λ l. length l) ls
    sums_upto [] w l h = cc
    sums_upto (x ∷ ls) zero l h =
        let same : length l ≡ length x = ap length (let e : l ≡ x = cc in e) in
        let whole : sum_by (λ l. length l) (x ∷ ls) ≡ length x + sum_by (λ l. length l) ls = sum_by-cons (λ l. length l) x ls in
        omega arith
    sums_upto (x ∷ ls) (suc w) l h =
        let whole : sum_by (λ l. length l) (x ∷ ls) ≡ length x + sum_by (λ l. length l) ls = sum_by-cons (λ l. length l) x ls in
        let front : sum_by (λ l. length l) (take (suc w) (x ∷ ls)) ≡ length x + sum_by (λ l. length l) (take w ls) = sum_by-cons (λ l. length l) x (take w ls) in
        omega (arith, sums_upto ls w l h)

-- the stamps of items in order rise
rising : (items : List Item) → map stamp_of items ≡ stamps_upto (length items) → IsStrictlyIncreasing (map (λ (item : Item). packed item.stamp) items)
rising items is k within =
    let count = length items in
    let all : map (λ (item : Item). packed item.stamp) items ≡ map (λ seq. first_epoch seq) (range_with_len 2 count) = numbers items ∙ ap (map number) is ∙ numbers_upto (range_with_len 2 count) in
    let more : k + 1 < count = omega (arith, length-map items (λ (item : Item). packed item.stamp)) in
    subst (λ (ns : List ℕ). get_or ns k 0 < get_or ns (k + 1) 0) (sym all)
    (omega (arith, get_or-map-range_with_len first_epoch 2 count k (2 + k) 0 (omega arith) refl, get_or-map-range_with_len first_epoch 2 count (k + 1) (2 + (k + 1)) 0 more refl))
  where
    number : ℕ × ℕ → ℕ
    number p = p.0 * 2 ^ 40 + p.1

    first_epoch : ℕ → ℕ
    first_epoch seq = 1 * 2 ^ 40 + seq

    numbers : (items : List Item) → map (λ (item : Item). packed item.stamp) items ≡ map number (map stamp_of items)
    numbers [] = refl
    numbers (item ∷ items) = ap (λ xs. packed item.stamp ∷ xs) (numbers items)

    numbers_upto : (seqs : List ℕ) → map number (map {B = ℕ × ℕ} (λ seq. (1, seq)) seqs) ≡ map (λ seq. first_epoch seq) seqs
    numbers_upto [] = refl
    numbers_upto (seq ∷ seqs) = ap (λ xs. first_epoch seq ∷ xs) (numbers_upto seqs)

-- the indexes that go with one worker
abbrev picked : ℕ → List (ℕ × ℕ) → List ℕ
picked worker names = map (λ (p : ℕ × ℕ). p.1) (filter (λ (p : ℕ × ℕ). p.0 == worker) names)

indexes_picked : (worker : ℕ) (items : List Item) → indexes_of worker items ≡ picked worker (map name_of items)
indexes_picked worker [] = refl
indexes_picked worker (item ∷ items) =
    elim (item.worker == worker) as (λ b. map (λ (i : Item). i.index) (cond b (item ∷ filter (λ (i : Item). i.worker == worker) items) (filter (λ (i : Item). i.worker == worker) items)) ≡ map (λ (p : ℕ × ℕ). p.1) (cond b (name_of item ∷ filter (λ (p : ℕ × ℕ). p.0 == worker) (map name_of items)) (filter (λ (p : ℕ × ℕ). p.0 == worker) (map name_of items)))) [
      | true ↦ ap (λ xs. item.index ∷ xs) (indexes_picked worker items)
      | false ↦ indexes_picked worker items
    ]

picked-append : (worker : ℕ) (xs ys : List (ℕ × ℕ)) → picked worker (xs ++ ys) ≡ picked worker xs ++ picked worker ys
picked-append worker xs ys =
    let own : ℕ × ℕ → Bool = λ p. p.0 == worker in
    ap (map (λ (p : ℕ × ℕ). p.1)) (filter-append own xs ys) ∙ map-append (λ (p : ℕ × ℕ). p.1) (filter own xs) (filter own ys)

picked_own : (worker from count : ℕ) → picked worker (map {B = ℕ × ℕ} (λ index. (worker, index)) (range_with_len from count)) ≡ range_with_len from count
picked_own worker from zero = refl
picked_own worker from (suc count) =
    let own : (worker == worker) ≡ true = grind (arith, nat_tests) in
    let rest = filter (λ (p : ℕ × ℕ). p.0 == worker) (map {B = ℕ × ℕ} (λ index. (worker, index)) (range_with_len (from + 1) count)) in
    ap (λ b. map (λ (p : ℕ × ℕ). p.1) (cond b ((worker, from) ∷ rest) rest)) own ∙ ap (λ xs. from ∷ xs) (picked_own worker (from + 1) count)

picked_other : (worker other from count : ℕ) → other ≢ worker → picked worker (map {B = ℕ × ℕ} (λ index. (other, index)) (range_with_len from count)) ≡ []
picked_other worker other from zero differ = refl
picked_other worker other from (suc count) differ =
    let not_own : (other == worker) ≡ false = grind (arith, nat_tests) in
    let rest = filter (λ (p : ℕ × ℕ). p.0 == worker) (map {B = ℕ × ℕ} (λ index. (other, index)) (range_with_len (from + 1) count)) in
    ap (λ b. map (λ (p : ℕ × ℕ). p.1) (cond b ((other, from) ∷ rest) rest)) not_own ∙ picked_other worker other (from + 1) count differ

picked_later : (worker from : ℕ) (lists : Requests) → worker < from → picked worker (requests_from from lists) ≡ []
picked_later worker from [] below = refl
picked_later worker from (list ∷ lists) below =
    picked-append worker (names_upto from (length list)) (requests_from (from + 1) lists) ∙ ap (λ xs. xs ++ picked worker (requests_from (from + 1) lists)) (picked_other worker from 1 (length list) (omega arith)) ∙ picked_later worker (from + 1) lists (omega arith)

-- how many requests a worker has among lists that are numbered from some number on
abbrev count_of : ℕ → ℕ → Requests → ℕ
count_of worker from [] = 0
count_of worker from (list ∷ lists) = cond (from == worker) (length list) (count_of worker (from + 1) lists)

picked_all : (worker from : ℕ) (lists : Requests) → picked worker (requests_from from lists) ≡ range_with_len 1 (count_of worker from lists)
picked_all worker from [] = refl
picked_all worker from (list ∷ lists) =
    let count = count_of worker (from + 1) lists in
    picked-append worker (names_upto from (length list)) (requests_from (from + 1) lists) ∙ elim (eqb_tells from worker) [
      | inl (test, same) ↦
          let none : picked worker (requests_from (from + 1) lists) ≡ [] = picked_later worker (from + 1) lists (omega arith) in
          let own : picked worker (names_upto from (length list)) ≡ range_with_len 1 (length list) = ap (λ w. picked worker (names_upto w (length list))) same ∙ picked_own worker 1 (length list) in
          ap (λ xs. picked worker (names_upto from (length list)) ++ xs) none ∙ append-nil (picked worker (names_upto from (length list))) ∙ own ∙ ap (λ b. range_with_len 1 (cond b (length list) count)) (sym test)
      | inr (test, differ) ↦
          ap (λ xs. xs ++ picked worker (requests_from (from + 1) lists)) (picked_other worker from 1 (length list) differ) ∙ picked_all worker (from + 1) lists ∙ ap (λ b. range_with_len 1 (cond b (length list) count)) (sym test)
    ]

count_at : (worker from i : ℕ) (lists : Requests) (list : List (List Op)) → worker ≡ from + i → slice_get lists i ≡ Some list → count_of worker from lists ≡ length list
count_at worker from i [] list is at = cc
count_at worker from zero (x ∷ lists) list is at =
    let own : (from == worker) ≡ true = grind (arith, nat_tests) in
    let same : x ≡ list = cc in
    ap (λ b. cond b (length x) (count_of worker (from + 1) lists)) own ∙ ap length same
count_at worker from (suc i) (x ∷ lists) list is at =
    let not_own : (from == worker) ≡ false = grind (arith, nat_tests) in
    ap (λ b. cond b (length x) (count_of worker (from + 1) lists)) not_own ∙ count_at worker (from + 1) i lists list (omega arith) at

-- all requests are done, list by list
pub all_done : (tables : List Table) (lists : Requests) (opening : Rows) (items : List Item) (rows : Rows) → AreDone tables lists opening (requests_from 1 lists) items rows → IsListByList tables lists opening items
all_done tables lists opening items rows so_far =
    let picks : (worker : ℕ) → indexes_of worker items ≡ range_with_len 1 (count_of worker 1 lists) = λ worker. indexes_picked worker items ∙ ap (picked worker) so_far.names ∙ picked_all worker 1 lists in
    record {
      requests = so_far.names;
      stamps = so_far.stamps;
      serial = record { rising = rising items so_far.stamps; runs = so_far.runs };
      in_lists = λ worker. picks worker ∙ ap (range_with_len 1) (sym (ap length (picks worker) ∙ length-range_with_len 1 (count_of worker 1 lists)));
      whole = λ worker list at. picks worker ∙ ap (range_with_len 1) (whole worker list at);
    }
  where
    whole : (worker : ℕ) (list : List (List Op)) → numbered lists worker ≡ Some list → count_of worker 1 lists ≡ length list
    whole zero list at = cc
    whole (suc worker) list at = count_at (suc worker) 1 worker lists list (omega arith) at
