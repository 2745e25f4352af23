-- The report of a run is read as itself.
use Rattle.std.proofs.Common.{◌≡◌, ℕ, zero, suc, ◌+◌, ◌-◌, ◌^◌, ◌<◌, ◌≤◌, List, [], ◌∷◌, length, map, get_or, All, Option, Some, None, Ok, IsSomeAnd, refl, sym, ap, ◌∙◌, arith}
use Rattle.std.specs.FinMap as finite
use Rattle.std.specs.List.{flat_map, range_with_len}
use Rattle.std.specs.List.Sorted.{IsStrictlyIncreasing}
use Rattle.std.proofs.lemmas.List.{length-map}
use Rattle.std.proofs.lemmas.List.Elements.{All-nil, All-cons, All-head, All-tail, All-append, All-map, All-get_or}
use Rattle.std.proofs.lemmas.List.FromFn.{length-map-range_with_len}
use Rattle.std.proofs.lemmas.List.Sums.{get_or-le-sum_by}
use Rattle.std.proofs.lemmas.Option.{get_or_from_slice_get}
use Rattle.rl_base.specs.Stamps.{packed}
use Rattle.rl_value.specs.Fits.{RowsFit}
use Rattle.rl_value.specs.Rows.{Rows}
use Rattle.rl_value.specs.Tables.{Table, IsTable, name_of, size_of, columns_of}
use Rattle.rl_txn.specs.Fits.{TxnFits, ListsFit, EndFits, ItemFits, AnswerFits}
use Rattle.rl_txn.specs.Serial.{request_of, rows_after}
use Rattle.rl_txn.specs.Words.{ItemHasWords, RowsHaveWords}
use Rattle.rl_txn.specs.declared.item.Item.{Item}
use Rattle.rl_txn.specs.declared.op.Op.{Op}
use Rattle.rl_txn.specs.declared.write.End.{End}
use Rattle.rl_txn.specs.declared.write.End.TheVariants.{Done, Declined}
use Rattle.rl_txn.proofs.Answers.{items_fit, serial_rows_fit, all_numbered}
use Rattle.rl_txn.proofs.Words.{items_have_words, rows_have_words}
use Rattle.rl_script.specs.Fits.{ScriptFits}
use Rattle.rl_script.specs.declared.script.Script.{Script}
use Rattle.rl_report.specs.Forms.{IsPlain, IsReport}
use Rattle.rl_report.specs.Lines.{item_line, row_line, row_lines_of_table, row_lines}
use Rattle.rl_report.specs.Numbers.{EndHasNumbers, ItemHasNumbers, RowHasNumbers, StreamHasNumbers, BlockHasNumbers, MiddleHasNumbers, HasNumbers}
use Rattle.rl_report.specs.Printed.{printed}
use Rattle.rl_report.specs.Read.{read_report}
use Rattle.rl_report.specs.declared.block.Block.{Block}
use Rattle.rl_report.specs.declared.line.RowLine.{RowLine}
use Rattle.rl_report.proofs.Both.{printed_is_read}
use Rattle.rl_check.specs.Right.{MayGive, MayDecide, node_after, live_report}
use Rattle.rl_check.proofs.Names.{rows_named}
use Rattle.rl_check.proofs.RerunLemmas.{Requests, list_of, number_within}

-- ---- the form ----

all_of : {X : Type 0} (P : X → Type 0) → ((x : X) → P x) → (xs : List X) → All P xs
all_of P each [] = All-nil P
all_of P each (x ∷ xs) = All-cons P x xs (each x) (all_of P each xs)

module _ (script : Script) (fits : ScriptFits script) (items : List Item) where
  numbers_of : (ns : List ℕ) → map (λ (b : Block). b.node) (map (node_after script items) ns) ≡ ns
  numbers_of [] = refl
  numbers_of (n ∷ ns) = ap (λ xs. n ∷ xs) (numbers_of ns)

  count : length (map (node_after script items) (range_with_len 1 script.nodes)) ≡ script.nodes
  count = length-map-range_with_len (node_after script items) 1 script.nodes

  plain : (n : ℕ) → IsPlain (node_after script items n)
  plain n = record { head = refl; streams = refl; named = rows_named script.schema (rows_after script.rows items) fits.tables.each }

  pub live_form : IsReport (live_report script items)
  live_form = (
    refl,
    refl,
    (
      omega (arith, count, fits.nodes.0),
      numbers_of (range_with_len 1 script.nodes) ∙ ap (range_with_len 1) (sym count),
      All-map IsPlain (node_after script items) (range_with_len 1 script.nodes) (all_of (λ n. IsPlain (node_after script items n)) plain (range_with_len 1 script.nodes)),
    ),
  )

-- ---- the numbers ----

-- a list is one of few requests
list_few : (tables : List Table) (lists : Requests) (w : ℕ) (list : List (List Op)) → ListsFit tables lists → (i : ℕ) → 1 ≤ w → w ≤ length lists → list ≡ get_or lists i list → i < length lists → length list ≤ 8192
list_few tables lists w list fits i some few at within =
    let sum = get_or-le-sum_by (λ (l : List (List Op)). length l) lists i list within in
    let same : length (get_or lists i list) ≡ length list = ap length (sym at) in
    let requests = fits.requests in
    omega (arith, sum, same, requests)

end_numbers : (txn : List Op) (e : End) → length txn ≤ 64 → EndFits txn e → EndHasNumbers e
end_numbers txn Done few fits = tt
end_numbers txn (Declined op) few fits = omega (arith, fits.1, few)

-- an item of a request
module _ (tables : List Table) (lists : Requests) (fits : ListsFit tables lists) (stops : List ℕ) where
  item_numbers : (item : Item) (txn : List Op) → request_of lists item ≡ Some txn → AnswerFits tables txn item.reply item.writes → MayGive stops item.stamp → ItemHasWords item → ItemHasNumbers (item_line item)
  item_numbers item txn of answers given words =
      let l = list_of lists item.worker item.index txn of in
      let w = number_within lists item.worker l.0 l.1 in
      let i = number_within l.0 item.index txn l.2 in
      let few = list_few tables lists item.worker l.0 fits (item.worker - 1) w.0 w.1 (sym (get_or_from_slice_get lists (item.worker - 1) l.0 l.0 w.2)) (omega (arith, w.0, w.1)) in
      let one = all_numbered (TxnFits tables) l.0 item.index txn l.2 (all_numbered (All (TxnFits tables)) lists item.worker l.0 l.1 fits.each) in
      let workers = fits.workers in
      record {
        epoch = omega (arith, given.range.few_epochs);
        seq = omega (arith, given.range.high);
        worker = omega (arith, w.1, workers);
        index = omega (arith, i.1, few);
        end = end_numbers txn item.reply.end one.few answers.end;
        outs = words.outs;
      }

  one_item : (item : Item) (o : Option (List Op)) → request_of lists item ≡ o → IsSomeAnd o (λ txn. AnswerFits tables txn item.reply item.writes) → MayGive stops item.stamp → ItemHasWords item → ItemHasNumbers (item_line item)
  one_item item (Some txn) of answers given words = item_numbers item txn of answers given words
  one_item item None of answers given words = absurd answers

  all_items : (items : List Item) → All (ItemFits tables lists) items → All (λ (i : Item). MayGive stops i.stamp) items → All ItemHasWords items → All ItemHasNumbers (map item_line items)
  all_items [] fit given words = All-nil ItemHasNumbers
  all_items (item ∷ items) fit given words =
      All-cons ItemHasNumbers (item_line item) (map item_line items)
      (one_item item (request_of lists item) refl (All-head (ItemFits tables lists) item items fit) (All-head (λ (i : Item). MayGive stops i.stamp) item items given) (All-head ItemHasWords item items words))
      (all_items items (All-tail (ItemFits tables lists) item items fit) (All-tail (λ (i : Item). MayGive stops i.stamp) item items given) (All-tail ItemHasWords item items words))

-- numbers that rise are at least their indexes
at_least : (ns : List ℕ) → IsStrictlyIncreasing ns → (k : ℕ) → k < length ns → k ≤ get_or ns k 0
at_least ns rise zero within = omega arith
at_least ns rise (suc k) within =
    let one : k + 1 ≡ suc k = omega arith in
    let before = at_least ns rise k (omega (arith, within)) in
    let step : get_or ns k 0 < get_or ns (k + 1) 0 = rise k (omega (arith, within)) in
    let same : get_or ns (k + 1) 0 ≡ get_or ns (suc k) 0 = ap (λ n. get_or ns n 0) one in
    omega (arith, before, step, same)

few_items : (ns : List ℕ) (n : ℕ) → IsStrictlyIncreasing ns → All (λ x. x < n) ns → length ns ≤ n
few_items [] n rise small = omega arith
few_items (x ∷ xs) n rise small =
    let last : length xs < length (x ∷ xs) = omega arith in
    omega (arith, at_least (x ∷ xs) rise (length xs) last, All-get_or (λ y. y < n) (x ∷ xs) (length xs) 0 last small)

stamps_small : (stops : List ℕ) (items : List Item) → All (λ (i : Item). MayGive stops i.stamp) items → All (λ n. n < 2 ^ 60) (map (λ (i : Item). packed i.stamp) items)
stamps_small stops [] given = All-nil (λ n. n < 2 ^ 60)
stamps_small stops (item ∷ items) given =
    let mine = (All-head (λ (i : Item). MayGive stops i.stamp) item items given).range in
    All-cons (λ n. n < 2 ^ 60) (packed item.stamp) (map (λ (i : Item). packed i.stamp) items) (omega (arith, mine.few_epochs, mine.high))
    (stamps_small stops items (All-tail (λ (i : Item). MayGive stops i.stamp) item items given))

-- rows that fit the tables
module _ (tables : List Table) (each : All IsTable tables) (rows : Rows) (fits : RowsFit tables rows) (words : RowsHaveWords rows) where
  table_few : (ts : List Table) → All IsTable ts → (t : ℕ) → t < length ts → (size_of ts t ≤ 65536) × (1 ≤ columns_of ts t) × (columns_of ts t ≤ 4)
  table_few [] all t within = absurd (omega (arith, within))
  table_few (x ∷ ts) all zero within = let is = All-head IsTable x ts all in (is.few_keys, is.some_columns, is.few_columns)
  table_few (x ∷ ts) all (suc t) within = table_few ts (All-tail IsTable x ts all) t (omega (arith, within))

  one_row : (t key : ℕ) (o : Option (List ℕ)) → finite.get rows (t, key) ≡ o → All RowHasNumbers (row_line (name_of tables t) key o)
  one_row t key None at = All-nil RowHasNumbers
  one_row t key (Some row) at =
      let there = fits t key row at in
      let few = table_few tables each t there.0 in
      All-cons RowHasNumbers (record { table = name_of tables t; key = key; row = row }) []
      (record {
        key = omega (arith, there.1, few.0);
        columns = words t key row at;
        some = omega (arith, there.2, few.1);
        few = omega (arith, there.2, few.2);
      }) (All-nil RowHasNumbers)

  all_over : (f : ℕ → List RowLine) → ((n : ℕ) → All RowHasNumbers (f n)) → (ns : List ℕ) → All RowHasNumbers (flat_map f ns)
  all_over f each [] = All-nil RowHasNumbers
  all_over f each (n ∷ ns) = All-append RowHasNumbers (f n) (flat_map f ns) (each n) (all_over f each ns)

  pub rows_numbers : All RowHasNumbers (row_lines tables rows)
  rows_numbers = all_over (row_lines_of_table tables rows)
      (λ t. all_over (λ key. row_line (name_of tables t) key (finite.get rows (t, key))) (λ key. one_row t key (finite.get rows (t, key)) refl) (range_with_len 0 (size_of tables t)))
      (range_with_len 0 (length tables))

numbers_upto : (ns : List ℕ) (n : ℕ) → (from count : ℕ) → from + count ≤ n → All (λ x. x < n) (range_with_len from count)
numbers_upto ns n from zero within = All-nil (λ x. x < n)
numbers_upto ns n from (suc count) within = All-cons (λ x. x < n) from (range_with_len (from + 1) count) (omega (arith, within)) (numbers_upto ns n (from + 1) count (omega (arith, within)))

blocks_numbers : (script : Script) (items : List Item) → All RowHasNumbers (row_lines script.schema (rows_after script.rows items)) → (ns : List ℕ) → All (λ n. n < 2 ^ 32) ns → All BlockHasNumbers (map (node_after script items) ns)
blocks_numbers script items rows [] small = All-nil BlockHasNumbers
blocks_numbers script items rows (n ∷ ns) small =
    All-cons BlockHasNumbers (node_after script items n) (map (node_after script items) ns)
    (record { node = All-head (λ n. n < 2 ^ 32) n ns small; head = tt; streams = All-nil StreamHasNumbers; rows = rows })
    (blocks_numbers script items rows ns (All-tail (λ n. n < 2 ^ 32) n ns small))

module _ (script : Script) (fits : ScriptFits script) (items : List Item) (decided : MayDecide script items) where
  words : RowsHaveWords script.rows
  words = fits.columns

  items_words : All ItemHasWords items
  items_words = items_have_words script.schema script.lists fits.lists script.rows items words decided.serial.runs

  live_numbers : HasNumbers (live_report script items)
  live_numbers =
      let sum = few_items (map (λ (i : Item). packed i.stamp) items) (2 ^ 60) decided.serial.rising (stamps_small script.stops items decided.stamps) in
      let nodes = fits.nodes.1 in
      record {
        middle = All-nil MiddleHasNumbers;
        items = all_items script.schema script.lists fits.lists script.stops items (items_fit script.schema script.lists fits.lists script.rows items decided.serial.runs) decided.stamps items_words;
        count = omega (arith, sum, length-map items (λ (i : Item). packed i.stamp), length-map items item_line);
        tables = All-nil RowHasNumbers;
        blocks = blocks_numbers script items
            (rows_numbers script.schema fits.tables.each (rows_after script.rows items) (serial_rows_fit script.schema script.lists fits.lists script.rows items fits.rows decided.serial.runs) (rows_have_words script.rows items words items_words))
            (range_with_len 1 script.nodes) (numbers_upto [] (2 ^ 32) 1 script.nodes (omega (arith, nodes)));
      }

  -- the text of a run's report is read as that report
  pub live_is_read : read_report (printed (live_report script items)) ≡ Ok (live_report script items)
  live_is_read = printed_is_read (live_report script items) (live_form script fits items) live_numbers
