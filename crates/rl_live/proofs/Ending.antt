-- Whole logs of all workers: their history is all of their items in order, which are serial, each list's in order.
use Rattle.std.proofs.Common.{◌≡◌, ◌≢◌, ℕ, zero, suc, ◌+◌, ◌-◌, ◌^◌, ◌<◌, ◌≤◌, List, [], ◌∷◌, ◌++◌, length, map, get_or, All, Contains, Bool, true, false, ◌==◌, Some, None, refl, sym, ap, ◌∙◌, subst, inl, inr, ⊎_elim, arith, append-nil}
use Rattle.std.specs.Prelude.{slice_index, slice_get, Option, IsSomeAnd}
use Rattle.std.specs.List.{AllZip, filter, flat_map, range_with_len}
use Rattle.std.specs.List.Sorted.{IsStrictlyIncreasing}
use Rattle.std.proofs.lemmas.Bool.Decides.{nat_tests}
use Rattle.std.proofs.lemmas.List.Elements.{filter-append}
use mathlib.Core.Option.{some, some-ne-none}
use lib.ListN.{get_elem?}
use Rattle.rl_base.specs.Order.{IsBelow}
use Rattle.rl_base.specs.Stamps.{packed}
use Rattle.rl_base.specs.declared.stamp.Stamp.{Stamp}
use Rattle.rl_base.proofs.Members as members
use Rattle.rl_txn.specs.Serial.{indexes_of, IsInLists, IsWhole}
use Rattle.rl_txn.specs.declared.batch.Batch.{Batch}
use Rattle.rl_txn.specs.declared.batch.Batch.TheVariants.{Items, Idle, Opened}
use Rattle.rl_txn.specs.declared.item.Item.{Item}
use Rattle.rl_txn.specs.declared.op.Op.{Op}
use Rattle.rl_families.specs.Logs.{stamps_in_batch, items_in_batch, stamps_along, items_along, top_epoch, last_seq, IsRising}
use Rattle.rl_families.specs.Order.{in_order}
use Rattle.rl_families.specs.Families.{history, is_counted}
use Rattle.rl_families.specs.Leaders.{open_mark}
use Rattle.rl_families.proofs.Logs.{item_stamp, item_stamp_of, back_stamps, stamps_along-append, items_along-append}
use Rattle.rl_families.proofs.Nesting.{Low, counts_from}
use Rattle.rl_families.proofs.Rising.{Rises, rises_from, from_rises, rises_append, rises_front, rises_back, behind, top_in, top_above, last_seq_among_above}
use Rattle.rl_families.proofs.Sorting.{in_order-filter, in_in_order, in_order_in}
use Rattle.rl_families.proofs.Streams.{in_logs}
use Rattle.rl_families.proofs.Strict.{Less, Strict, Diff, in_order_strict, map_strict, strict_append, same_members, append_diff, log_diff}
use Rattle.rl_value.specs.Tables.{Table}
use Rattle.rl_families.proofs.StampedLogs.{stamps_apart}
use Rattle.rl_store.specs.declared.view.Item as store
use Rattle.rl_store.specs.Entries as placed
use Rattle.rl_store.proofs.Seating.{at_append, at_behind}
use Rattle.rl_value.specs.Rows.{Rows}
use Rattle.rl_tables.proofs.Places.{place_of_record}
use Rattle.rl_txn.specs.Fits.{AnswerFits}
use Rattle.rl_txn.specs.Serial.{request_of, IsSerial}
use Rattle.rl_store.specs.declared.view.View.{View}
use Rattle.rl_store.specs.Ends.{EndsAfter}
use Rattle.rl_store.specs.Entries.{RowOf, entries, of_item, drawn_entry}
use Rattle.rl_store.specs.Layout.{Opening}
use Rattle.rl_store.specs.Opening.{opening_of}
use Rattle.rl_store.specs.Views.{IsAtRest}
use Rattle.rl_store.proofs.Marks.{at_map}
use Rattle.rl_store.proofs.Seating.{append_none}
use Rattle.rl_shared_replay.specs.Replayable.{IsReplayable}
use Rattle.rl_occ.proofs.Runs.{are_writes}
use Rattle.rl_live.proofs.ReadLogs.{from_diff}
use Rattle.rl_live.proofs.Serial.{apart_keys, runs_all, store_after}
use Rattle.rl_live.specs.Decided.{IsItemOf, AreItemsOf, IsStoreAfter}
use Rattle.rl_live.specs.Ended.{IsWholeLog, WholeLogs, together, HaveEnded, HasServed}
use Rattle.rl_live.specs.Workers.{end_mark, IsCommit}
use Rattle.rl_live.specs.Run.{AreLogsOf, IsLogOf, IsCommitStamp}

abbrev first_stamp : ℕ → Stamp
first_stamp epoch = record { epoch = epoch; seq = 1 }

abbrev end_stamp : ℕ → Stamp
end_stamp epoch = record { epoch = epoch; seq = 2 ^ 40 - 1 }

-- the log of a worker that has done its whole list
abbrev pub marked : (epoch : ℕ) → List Batch → List Batch
marked epoch batches = open_mark epoch ∷ (batches ++ end_mark epoch ∷ [])

pub items_marked : (e : ℕ) (batches : List Batch) → items_along (marked e batches) ≡ items_along batches
items_marked e batches = items_along-append batches (end_mark e ∷ []) ∙ append-nil (items_along batches)

from_in : {X : Type 0} (P : X → Type 0) (xs : List X) → ((x : X) → members.In x xs → P x) → All P xs
from_in P [] h k d l = absurd (omega arith)
from_in P (x ∷ xs) h zero d l = h x (inl refl)
from_in P (x ∷ xs) h (suc k) d l = from_in P xs (λ y i. h y (inr i)) k d (omega arith)

pub whole_of : (e n c : ℕ) (batches : List Batch) → stamps_along batches ≡ map (λ (x : Item). x.stamp) (items_along batches) → IsRising (stamps_along batches)
    → All (IsCommit e n) (items_along batches) → map (λ (x : Item). x.index) (items_along batches) ≡ range_with_len 1 c → IsWholeLog e n c (marked e batches)
whole_of e n c batches only rising commits indexes = record {
  rest = batches ++ end_mark e ∷ [];
  begins = refl;
  front = open_mark e ∷ batches;
  ends = refl;
  rising = from_rises (stamps_along (marked e batches)) (subst (λ l. Rises ((first_stamp e) ∷ l)) (sym along) rises);
  epochs = from_in (λ (t : Stamp). t.epoch ≡ e) (stamps_along (marked e batches)) (λ t i. elim (subst (λ l. members.In t ((first_stamp e) ∷ l)) along i) [
    | inl q ↦ ap (λ (s : Stamp). s.epoch) q
    | inr j ↦ elim (members.in_split (stamps_along batches) ((end_stamp e) ∷ []) t j) [
      | inl k ↦ (stamped t k).0
      | inr k ↦ elim k [ inl q ↦ ap (λ (s : Stamp). s.epoch) q | inr z ↦ absurd z ]
    ]
  ]);
  commits = subst (All (IsCommit e n)) (sym (items_marked e batches)) commits;
  indexes = ap (map (λ (x : Item). x.index)) (items_marked e batches) ∙ indexes;
}
  where
    along : stamps_along (batches ++ end_mark e ∷ []) ≡ stamps_along batches ++ (end_stamp e) ∷ []
    along = stamps_along-append batches (end_mark e ∷ [])

    stamped : (t : Stamp) → members.In t (stamps_along batches) → (t.epoch ≡ e) × (2 ≤ t.seq) × (t.seq ≤ 2 ^ 40 - 2)
    stamped t i =
        let m = members.map_in (λ (x : Item). x.stamp) t (items_along batches) (subst (λ l. members.In t l) only i) in
        let x = members.all_in (IsCommit e n) (items_along batches) commits m.0 m.1 in
        subst (λ (s : Stamp). (s.epoch ≡ e) × (2 ≤ s.seq) × (s.seq ≤ 2 ^ 40 - 2)) m.2 (x.dated, x.low, x.high)

    rises : Rises ((first_stamp e) ∷ (stamps_along batches ++ (end_stamp e) ∷ []))
    rises = rises_append ((first_stamp e) ∷ []) (stamps_along batches ++ (end_stamp e) ∷ []) (rises_from ((first_stamp e) ∷ []) (λ i j d l m. absurd (omega arith)))
        (rises_append (stamps_along batches) ((end_stamp e) ∷ []) (rises_from (stamps_along batches) rising) (rises_from ((end_stamp e) ∷ []) (λ i j d l m. absurd (omega arith)))
        (λ s t i j. elim j [ inl q ↦ subst (λ (u : Stamp). IsBelow s u) (sym q) (let a = stamped s i in inr (a.0, omega (arith, a.2))) | inr z ↦ absurd z ]))
        (λ s t i j. elim i [
          | inl q ↦ subst (λ (u : Stamp). IsBelow u t) (sym q) (elim (members.in_split (stamps_along batches) ((end_stamp e) ∷ []) t j) [
            | inl k ↦ (let a = stamped t k in inr (sym a.0, omega (arith, a.1)))
            | inr k ↦ elim k [ inl r ↦ subst (λ (u : Stamp). IsBelow (first_stamp e) u) (sym r) (inr (refl, omega arith)) | inr z ↦ absurd z ]
          ])
          | inr z ↦ absurd z
        ])

-- ---- one log ----
whole_rises : (e n c : ℕ) (log : List Batch) → IsWholeLog e n c log → Rises (stamps_along log)
whole_rises e n c log w = rises_from (stamps_along log) w.rising

in_epoch : (e n c : ℕ) (log : List Batch) → IsWholeLog e n c log → (t : Stamp) → members.In t (stamps_along log) → t.epoch ≡ e
in_epoch e n c log w t i = members.all_in (λ (s : Stamp). s.epoch ≡ e) (stamps_along log) w.epochs t i

end_in : (e n c : ℕ) (log : List Batch) → IsWholeLog e n c log → members.In (end_stamp e) (stamps_along log)
end_in e n c log w = subst (λ l. members.In (end_stamp e) (stamps_along l)) (sym w.ends) (back_stamps (end_stamp e) w.front (end_mark e ∷ []) (inl refl))

-- it reaches each stamp of the epoch
reaches : (e n c : ℕ) (log : List Batch) → IsWholeLog e n c log → (s : Stamp) → s.epoch ≡ e → s.seq < 2 ^ 40 → Low log s
reaches e n c log w s f l = (
  (let a = top_above (stamps_along log) (whole_rises e n c log w) (end_stamp e) (end_in e n c log w) in omega arith),
  subst (λ z. s.seq ≤ last_seq log z) (sym f) (let a = last_seq_among_above (stamps_along log) (end_stamp e) (end_in e n c log w) in omega arith),
)

top_is : (e n c : ℕ) (log : List Batch) → IsWholeLog e n c log → top_epoch log ≡ e
top_is e n c log w =
    let mark : Stamp = record { epoch = e; seq = 1 } in
    let t = top_in mark (stamps_along w.rest) in
    ap top_epoch w.begins ∙ (t.2 ∙ in_epoch e n c log w t.0 (subst (λ l. members.In t.0 (stamps_along l)) (sym w.begins) t.1))

pub log_of : (e n c : ℕ) (log : List Batch) → IsWholeLog e n c log → IsLogOf e n log
log_of e n c log w = record {
  last = top_is e n c log w;
  rising = w.rising;
  own = λ k d l. (w.commits k d l).own;
  opens = λ before after batch t cut has.
      let there = subst (λ l. members.In t (stamps_along l)) cut (back_stamps t before (batch ∷ after) (members.in_prefix (stamps_in_batch batch) (stamps_along after) t (members.contains_in (stamps_in_batch batch) t has))) in
      let mark = ap open_mark (in_epoch e n c log w t there) in
      first before after batch t (cut ∙ w.begins) mark;
}
  where
    head : {X : Type 0} (a b : X) (xs ys : List X) → a ∷ xs ≡ b ∷ ys → a ≡ b
    head a b xs ys h = let n = h in cc

    first : (before after : List Batch) (batch : Batch) (t : Stamp) → before ++ (batch ∷ after) ≡ open_mark e ∷ w.rest → open_mark t.epoch ≡ open_mark e → Contains (before ++ batch ∷ []) (open_mark t.epoch)
    first [] after batch t h m = members.in_contains (batch ∷ []) (open_mark t.epoch) (inl (m ∙ sym (head batch (open_mark e) after w.rest h)))
    first (b ∷ bs) after batch t h m = members.in_contains ((b ∷ bs) ++ batch ∷ []) (open_mark t.epoch) (inl (m ∙ sym (head b (open_mark e) (bs ++ batch ∷ after) w.rest h)))

-- its items stand in order
batch_strict : (b : Batch) → Rises (stamps_in_batch b) → Strict (items_in_batch b)
batch_strict (Items xs) r = map_strict xs r
batch_strict (Idle s) r = tt
batch_strict (Opened s) r = tt

log_strict : (log : List Batch) → Rises (stamps_along log) → Strict (items_along log)
log_strict [] r = tt
log_strict (b ∷ bs) r = strict_append (items_in_batch b) (items_along bs)
    (batch_strict b (rises_front (stamps_in_batch b) (stamps_along bs) r))
    (log_strict bs (rises_back (stamps_in_batch b) (stamps_along bs) r))
    (λ x y i j. behind (stamps_in_batch b) (stamps_along bs) r x.stamp (item_stamp_of b x i) y.stamp (item_stamp bs y j))

strict_diff : (xs : List Item) → Strict xs → Diff xs
strict_diff [] s = tt
strict_diff (x ∷ xs) s = ((λ y i. inl (s.0 y i)), strict_diff xs s.1)

in_order_same : (xs : List Item) → Strict xs → in_order xs ≡ xs
in_order_same xs s = same_members (in_order xs) xs (in_order_strict xs (strict_diff xs s)) s (λ x i. in_in_order x xs i) (λ x i. in_order_in x xs i)

-- ---- all logs ----
whole_in : (e n : ℕ) (lists : List (List (List Op))) (family : List (List Batch)) → WholeLogs e n lists family → (log : List Batch) → members.In log family
    → (m : ℕ) × (c : ℕ) × IsWholeLog e m c log
whole_in e n [] [] w log i = absurd i
whole_in e n [] (l ∷ ls) w log i = absurd w
whole_in e n (x ∷ xs) [] w log i = absurd w
whole_in e n (x ∷ xs) (l ∷ ls) w log i = elim i [
  | inl q ↦ (n, length x, subst (λ z. IsWholeLog e n (length x) z) (sym q) w.0)
  | inr j ↦ whole_in e (suc n) xs ls w.1 log j
]

pub as_long : (e n : ℕ) (lists : List (List (List Op))) (family : List (List Batch)) → WholeLogs e n lists family → length family ≡ length lists
as_long e n [] [] w = refl
as_long e n [] (l ∷ ls) w = absurd w
as_long e n (x ∷ xs) [] w = absurd w
as_long e n (x ∷ xs) (l ∷ ls) w = ap (λ k. suc k) (as_long e (suc n) xs ls w.1)

log_at_of : (e n m k : ℕ) (lists : List (List (List Op))) (family : List (List Batch)) → WholeLogs e n lists family → k < length family → m ≡ n + k → IsLogOf e m (get_or family k [])
log_at_of e n m k [] [] w l q = absurd (omega arith)
log_at_of e n m k [] (y ∷ ys) w l q = absurd w
log_at_of e n m k (x ∷ xs) [] w l q = absurd w
log_at_of e n m zero (x ∷ xs) (y ∷ ys) w l q = subst (λ z. IsLogOf e z y) (let r : n ≡ m = omega arith in r) (log_of e n (length x) y w.0)
log_at_of e n m (suc k) (x ∷ xs) (y ∷ ys) w l q = log_at_of e (suc n) m k xs ys w.1 (omega arith) (omega arith)

pub are_logs : (e : ℕ) (lists : List (List (List Op))) (family : List (List Batch)) → WholeLogs e 1 lists family → AreLogsOf e family
are_logs e lists family w worker low high = log_at_of e 1 worker (worker - 1) lists family w (omega arith) (omega arith)

item_epoch : (e n : ℕ) (lists : List (List (List Op))) (family : List (List Batch)) → WholeLogs e n lists family → (x : Item) → members.In x (flat_map items_along family) → x.stamp.epoch ≡ e
item_epoch e n lists family w x i =
    let l = in_logs x family i in
    let v = whole_in e n lists family w l.0 l.1 in
    in_epoch e v.0 v.1 l.0 v.2 x.stamp (item_stamp l.0 x l.2)

-- ---- all items count ----
filter_all : (f : Item → Bool) (xs : List Item) → ((x : Item) → members.In x xs → f x ≡ true) → filter f xs ≡ xs
filter_all f [] h = refl
filter_all f (x ∷ xs) h = rw (h x (inl refl)) (ap (λ l. x ∷ l) (filter_all f xs (λ y i. h y (inr i))))

filter_none : (f : Item → Bool) (xs : List Item) → ((x : Item) → members.In x xs → f x ≡ false) → filter f xs ≡ []
filter_none f [] h = refl
filter_none f (x ∷ xs) h = rw (h x (inl refl)) (filter_none f xs (λ y i. h y (inr i)))

all_count : (e n : ℕ) (lists : List (List (List Op))) (family : List (List Batch)) → 1 ≤ e → WholeLogs e n lists family
    → (x : Item) → members.In x (flat_map items_along family) → x.stamp.seq < 2 ^ 40 → is_counted family x.stamp ≡ true
all_count e n lists [] b w x i l = absurd i
all_count e n lists (log ∷ logs) b w x i l =
    let q = item_epoch e n lists (log ∷ logs) w x i in
    counts_from log logs x.stamp (omega arith) (λ z j. let v = whole_in e n lists (log ∷ logs) w z j in reaches e v.0 v.1 z v.2 x.stamp q l)

pub history_is : (e n : ℕ) (lists : List (List (List Op))) (family : List (List Batch)) → 1 ≤ e → WholeLogs e n lists family
    → ((x : Item) → members.In x (flat_map items_along family) → x.stamp.seq < 2 ^ 40) → history family ≡ in_order (flat_map items_along family)
history_is e n lists family b w small = ap in_order (filter_all (λ (x : Item). is_counted family x.stamp) (flat_map items_along family) (λ x i. all_count e n lists family b w x i (small x i)))

-- ---- the items of one worker ----
is_not : (w n : ℕ) → w ≢ n → (n == w) ≡ false
is_not w n h = grind (arith, nat_tests)

own_true : (e n c : ℕ) (log : List Batch) → IsWholeLog e n c log → filter (λ (x : Item). x.worker == n) (items_along log) ≡ items_along log
own_true e n c log w = filter_all (λ (x : Item). x.worker == n) (items_along log) (λ x i. same x.worker (members.all_in (IsCommit e n) (items_along log) w.commits x i).own)
  where
    same : (m : ℕ) → m ≡ n → (m == n) ≡ true
    same m h = grind (arith, nat_tests)

own_false : (e n c w : ℕ) (log : List Batch) → IsWholeLog e n c log → w ≢ n → filter (λ (x : Item). x.worker == w) (items_along log) ≡ []
own_false e n c w log h d = filter_none (λ (x : Item). x.worker == w) (items_along log) (λ x i. other x.worker (members.all_in (IsCommit e n) (items_along log) h.commits x i).own)
  where
    other : (m : ℕ) → m ≡ n → (m == w) ≡ false
    other m q = subst (λ z. (z == w) ≡ false) (sym q) (is_not w n d)

none_below : (e n w : ℕ) (lists : List (List (List Op))) (family : List (List Batch)) → WholeLogs e n lists family → w < n → filter (λ (x : Item). x.worker == w) (flat_map items_along family) ≡ []
none_below e n w [] [] h l = refl
none_below e n w [] (y ∷ ys) h l = absurd h
none_below e n w (x ∷ xs) [] h l = absurd h
none_below e n w (x ∷ xs) (y ∷ ys) h l =
    filter-append (λ (i : Item). i.worker == w) (items_along y) (flat_map items_along ys)
    ∙ (ap (λ z. z ++ filter (λ (i : Item). i.worker == w) (flat_map items_along ys)) (own_false e n (length x) w y h.0 (λ q. omega arith))
    ∙ none_below e (suc n) w xs ys h.1 (omega arith))

own_items : (e n w k : ℕ) (lists : List (List (List Op))) (family : List (List Batch)) → WholeLogs e n lists family → w ≡ n + k → filter (λ (x : Item). x.worker == w) (flat_map items_along family) ≡ items_along (get_or family k [])
own_items e n w k [] [] h q = refl
own_items e n w k [] (y ∷ ys) h q = absurd h
own_items e n w k (x ∷ xs) [] h q = absurd h
own_items e n w zero (x ∷ xs) (y ∷ ys) h q =
    let s : n ≡ w = omega arith in
    filter-append (λ (i : Item). i.worker == w) (items_along y) (flat_map items_along ys)
    ∙ (ap (λ z. z ++ filter (λ (i : Item). i.worker == w) (flat_map items_along ys)) (subst (λ m. filter (λ (i : Item). i.worker == m) (items_along y) ≡ items_along y) s (own_true e n (length x) y h.0))
    ∙ (ap (λ z. items_along y ++ z) (none_below e (suc n) w xs ys h.1 (omega arith))
    ∙ append-nil (items_along y)))
own_items e n w (suc k) (x ∷ xs) (y ∷ ys) h q =
    filter-append (λ (i : Item). i.worker == w) (items_along y) (flat_map items_along ys)
    ∙ (ap (λ z. z ++ filter (λ (i : Item). i.worker == w) (flat_map items_along ys)) (own_false e n (length x) w y h.0 (λ r. omega arith))
    ∙ own_items e (suc n) w k xs ys h.1 (omega arith))

strict_at : (e n k : ℕ) (lists : List (List (List Op))) (family : List (List Batch)) → WholeLogs e n lists family → Strict (items_along (get_or family k []))
strict_at e n k [] [] h = tt
strict_at e n k [] (y ∷ ys) h = absurd h
strict_at e n k (x ∷ xs) [] h = absurd h
strict_at e n zero (x ∷ xs) (y ∷ ys) h = log_strict y (whole_rises e n (length x) y h.0)
strict_at e n (suc k) (x ∷ xs) (y ∷ ys) h = strict_at e (suc n) k xs ys h.1

indexes_at : (e n k : ℕ) (lists : List (List (List Op))) (family : List (List Batch)) → WholeLogs e n lists family
    → map (λ (x : Item). x.index) (items_along (get_or family k [])) ≡ range_with_len 1 (length (get_or lists k []))
indexes_at e n k [] [] h = refl
indexes_at e n k [] (y ∷ ys) h = absurd h
indexes_at e n k (x ∷ xs) [] h = absurd h
indexes_at e n zero (x ∷ xs) (y ∷ ys) h = h.0.indexes
indexes_at e n (suc k) (x ∷ xs) (y ∷ ys) h = indexes_at e (suc n) k xs ys h.1

range_long : (a n : ℕ) → length (range_with_len a n) ≡ n
range_long a zero = refl
range_long a (suc n) = ap (λ k. suc k) (range_long (a + 1) n)

got : {X : Type 0} (xs : List X) (k : ℕ) (x d : X) → slice_get xs k ≡ Some x → get_or xs k d ≡ x
got [] k x d h = absurd (let n = h in grind arith)
got (y ∷ ys) zero x d h = let n = h in cc
got (y ∷ ys) (suc k) x d h = got ys k x d h

module _ (e : ℕ) (lists : List (List (List Op))) (family : List (List Batch)) (h : WholeLogs e 1 lists family) where
  abbrev flat : List Item
  flat = flat_map items_along family

  indexes_from : (k : ℕ) → indexes_of (suc k) (in_order flat) ≡ range_with_len 1 (length (get_or lists k []))
  indexes_from k =
      let f = λ (x : Item). x.worker == suc k in
      ap (map (λ (x : Item). x.index)) (sym (in_order-filter f flat)
      ∙ (ap in_order (own_items e 1 (suc k) k lists family h (omega arith))
      ∙ in_order_same (items_along (get_or family k [])) (strict_at e 1 k lists family h)))
      ∙ indexes_at e 1 k lists family h

  indexes_none : indexes_of 0 (in_order flat) ≡ []
  indexes_none = ap (map (λ (x : Item). x.index)) (sym (in_order-filter (λ (x : Item). x.worker == 0) flat) ∙ ap in_order (none_below e 1 0 lists family h (omega arith)))

  pub in_lists : IsInLists (in_order flat)
  in_lists zero = indexes_none ∙ ap (λ l. range_with_len 1 (length l)) (sym indexes_none)
  in_lists (suc k) =
      let c = length (get_or lists k []) in
      indexes_from k ∙ ap (range_with_len 1) (sym (ap length (indexes_from k) ∙ range_long 1 c))

  pub whole_lists : IsWhole lists (in_order flat)
  whole_lists zero list q = absurd (let n = q in grind arith)
  whole_lists (suc k) list q = indexes_from k ∙ ap (λ l. range_with_len 1 (length l)) (got lists k list [] q)

-- ---- stamps as numbers ----
below_packed : (x y : Item) → x.stamp.seq < 2 ^ 40 → Less x y → packed x.stamp < packed y.stamp
below_packed x y h l = elim l [ inl a ↦ omega arith | inr a ↦ omega (arith, a.0, a.1) ]

pub packed_rises : (xs : List Item) → Strict xs → ((x : Item) → members.In x xs → x.stamp.seq < 2 ^ 40) → IsStrictlyIncreasing (map (λ (x : Item). packed x.stamp) xs)
packed_rises [] s h k a = absurd (omega arith)
packed_rises (x ∷ []) s h k a = absurd (omega arith)
packed_rises (x ∷ (y ∷ ys)) s h zero a = below_packed x y (h x (inl refl)) (s.0 y (inl refl))
packed_rises (x ∷ (y ∷ ys)) s h (suc k) a =
    let e : suc k + 1 ≡ suc (k + 1) = omega arith in
    subst (λ z. slice_index (map (λ (i : Item). packed i.stamp) (y ∷ ys)) k < slice_index (map (λ (i : Item). packed i.stamp) (x ∷ (y ∷ ys))) z) (sym e)
    (packed_rises (y ∷ ys) s.1 (λ z i. h z (inr i)) k (omega arith))

-- ---- items beside those of the passes ----
-- no two have one stamp
abbrev pub NoTwo : List store.Item → Type 0
NoTwo kept = (p q : ℕ) (i j : store.Item) → get_elem? kept p ≡ some i → get_elem? kept q ≡ some j → i.stamp ≡ j.stamp → p ≡ q

front_at : {X : Type 0} (xs ys : List X) (p : ℕ) (x : X) → get_elem? xs p ≡ some x → (get_elem? (xs ++ ys) p ≡ some x) × (p < length xs)
front_at [] ys p x e = absurd (some-ne-none x (sym e))
front_at (z ∷ xs) ys zero x e = (e, omega arith)
front_at (z ∷ xs) ys (suc p) x e = let r = front_at xs ys p x e in (r.0, omega (arith, r.1))

module _ (tables : List Table) (lists : List (List (List Op))) where
  -- each log has the items of a pass
  abbrev pub Kept : List (List Batch) → List (List store.Item) → Type 0
  Kept family ks = AllZip (λ log k. AreItemsOf tables lists (items_along log) k) family ks

  pub kept_of : (family : List (List Batch)) (ks : List (List store.Item)) → Kept family ks → (x : Item) → members.In x (flat_map items_along family)
      → (i : store.Item) × placed.In i (together ks) × IsItemOf tables lists x i
  kept_of [] ks z x i = absurd i
  kept_of (l ∷ ls) [] z x i = absurd z
  kept_of (l ∷ ls) (k ∷ ks) z x i = elim (members.in_split (items_along l) (flat_map items_along ls) x i) [
    | inl j ↦ (let r = z.0.kept_of x (members.in_contains (items_along l) x j) in (r.0, (r.1.0, (front_at k (together ks) r.1.0 r.0 r.1.1).0), r.2))
    | inr j ↦ (let r = kept_of ls ks z.1 x j in (r.0, (length k + r.1.0, at_behind k (together ks) r.1.0 r.0 r.1.1), r.2))
  ]

  pub item_of : (family : List (List Batch)) (ks : List (List store.Item)) → Kept family ks → (i : store.Item) (p : ℕ) → get_elem? (together ks) p ≡ some i
      → (x : Item) × members.In x (flat_map items_along family) × IsItemOf tables lists x i
  item_of [] [] z i p e = absurd (some-ne-none i (sym e))
  item_of [] (k ∷ ks) z i p e = absurd z
  item_of (l ∷ ls) [] z i p e = absurd z
  item_of (l ∷ ls) (k ∷ ks) z i p e = ⊎_elim
      (λ (q : get_elem? k p ≡ some i). let r = z.0.item_of i (p, q) in
      (r.0, members.in_prefix (items_along l) (flat_map items_along ls) r.0 (members.contains_in (items_along l) r.0 r.1), r.2))
      (λ (q : (m : ℕ) × (p ≡ length k + m) × (get_elem? (together ks) m ≡ some i)). let r = item_of ls ks z.1 i q.0 q.2 in
      (r.0, members.in_suffix (items_along l) (flat_map items_along ls) r.0 r.1, r.2))
      (at_append k (together ks) p i e)

  pub are_items : (family : List (List Batch)) (ks : List (List store.Item)) → Kept family ks → AreItemsOf tables lists (in_order (flat_map items_along family)) (together ks)
  are_items family ks z =
      let flat = flat_map items_along family in
      record {
        kept_of = λ x c. kept_of family ks z x (in_in_order x flat (members.contains_in (in_order flat) x c));
        item_of = λ i p. (let r = item_of family ks z i p.0 p.1 in (r.0, members.in_contains (in_order flat) r.0 (in_order_in r.0 flat r.1), r.2));
      }

  pub small : (family : List (List Batch)) (ks : List (List store.Item)) → Kept family ks → (x : Item) → members.In x (flat_map items_along family) → x.stamp.seq < 2 ^ 40
  small family ks z x i = (kept_of family ks z x i).2.seq

  pub all_differ : (family : List (List Batch)) (ks : List (List store.Item)) → Kept family ks → ((log : List Batch) → members.In log family → Rises (stamps_along log)) → NoTwo (together ks)
      → Diff (flat_map items_along family)
  all_differ [] ks z r n = tt
  all_differ (l ∷ ls) [] z r n = absurd z
  all_differ (l ∷ ls) (k ∷ ks) z r n = append_diff (items_along l) (flat_map items_along ls) (log_diff l (r l (inl refl)))
      (all_differ ls ks z.1 (λ m i. r m (inr i)) (λ p q a b u v w. let g = n (length k + p) (length k + q) a b (at_behind k (together ks) p a u) (at_behind k (together ks) q b v) w in omega arith))
      (λ x y i j. stamps_apart x y (λ e.
      let a = z.0.kept_of x (members.in_contains (items_along l) x i) in
      let b = kept_of ls ks z.1 y j in
      let f : a.0.stamp ≡ b.0.stamp = a.2.stamp ∙ (ap packed e ∙ sym b.2.stamp) in
      let at = front_at k (together ks) a.1.0 a.0 a.1.1 in
      let g = n a.1.0 (length k + b.1.0) a.0 b.0 at.0 (at_behind k (together ks) b.1.0 b.0 b.1.1) f in
      let h = at.1 in
      omega arith))

-- ---- all together ----
pub some_and : {X : Type 0} (o : Option X) (P : X → Type 0) → IsSomeAnd o P → (x : X) × (o ≡ Some x) × P x
some_and None P h = absurd h
some_and (Some x) P h = (x, refl, h)

replayable : (tables : List Table) (lists : List (List (List Op))) (x : Item) (i : store.Item) → IsItemOf tables lists x i → 1 ≤ x.stamp.epoch → x.stamp.epoch < 2 ^ 20 → IsReplayable tables x
replayable tables lists x i it low high =
    let t = some_and (request_of lists x) (λ txn. AnswerFits tables txn x.reply x.writes) it.fits in
    record { epoch_low = low; epoch_high = high; seq = it.seq; fit = t.2.fit; apart = apart_keys tables x.writes (are_writes tables place_of_record x.writes t.2.fit t.2.rising) }

no_two : (b : Opening) (v : View) (words : List ℕ) (closed : List RowOf) → IsAtRest v → EndsAfter b v words closed → NoTwo v.items
no_two b v words closed rest ends p q i j u w e =
    let same : entries v ≡ map of_item v.items = ap (λ a. map of_item v.items ++ drawn_entry a a.drawn) rest ∙ append_none (map of_item v.items) in
    ends.differ (of_item i) (of_item j) p q (subst (λ l. get_elem? l p ≡ some (of_item i)) (sym same) (at_map of_item v.items p i u)) (subst (λ l. get_elem? l q ≡ some (of_item j)) (sym same) (at_map of_item v.items q j w)) e

module _ (tables : List Table) (lists : List (List (List Op))) (rows : Rows) (epoch : ℕ) (family : List (List Batch)) (e : HaveEnded tables lists rows epoch family) where
  abbrev all : List Item
  all = flat_map items_along family

  apart : NoTwo (together e.passes)
  apart = subst (λ l. NoTwo l) e.items (no_two (opening_of e.made) e.view e.words e.closed e.rest e.ends)

  rise : (log : List Batch) → members.In log family → Rises (stamps_along log)
  rise log i = let v = whole_in epoch 1 lists family e.whole log i in whole_rises epoch v.0 v.1 log v.2

  diff : Diff all
  diff = all_differ tables lists family e.passes e.kept rise apart

  strict : Strict (in_order all)
  strict = in_order_strict all diff

  are : AreItemsOf tables lists (in_order all) e.view.items
  are = subst (AreItemsOf tables lists (in_order all)) (sym e.items) (are_items tables lists family e.passes e.kept)

  is : history family ≡ in_order all
  is = history_is epoch 1 lists family e.begun e.whole (small tables lists family e.passes e.kept)

  commit_of : (x : Item) → members.In x all → IsCommitStamp epoch x.stamp
  commit_of x i =
      let l = in_logs x family i in
      let v = whole_in epoch 1 lists family e.whole l.0 l.1 in
      let c = members.all_in (IsCommit epoch v.0) (items_along l.0) v.2.commits x l.2 in
      let d = c.dated in
      let b = e.begun in
      record { some_epoch = omega arith; few_epochs = omega arith; low = c.low; high = c.high }

  pub served : HasServed tables lists rows epoch family e
  served = record {
    logs = are_logs epoch lists family e.whole;
    serial = subst (IsSerial tables lists rows) (sym is) record {
      rising = packed_rises (in_order all) strict (λ x i. small tables lists family e.passes e.kept x (in_in_order x all i));
      runs = runs_all tables lists rows e.made e.view e.words e.closed (in_order all) e.opens e.rest e.ends strict are;
    };
    in_lists = subst (λ l. IsInLists l) (sym is) (in_lists epoch lists family e.whole);
    whole = subst (IsWhole lists) (sym is) (whole_lists epoch lists family e.whole);
    stamps = subst (All (λ (x : Item). IsCommitStamp epoch x.stamp)) (sym is) (from_in (λ (x : Item). IsCommitStamp epoch x.stamp) (in_order all) (λ x i. commit_of x (in_in_order x all i)));
    store = subst (λ l. IsStoreAfter tables rows e.made l e.words e.closed) (sym is) (store_after tables lists rows e.made e.view e.words e.closed (in_order all) e.opens e.rest e.ends strict are);
    replays = record {
      fit = from_in (IsReplayable tables) all (λ x i. let k = kept_of tables lists family e.passes e.kept x i in let s = commit_of x i in let f = e.few in replayable tables lists x k.0 k.2 s.some_epoch (let a = s.few_epochs in omega arith));
      distinct = from_diff all diff;
    };
  }
