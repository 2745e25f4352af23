-- The lines of a script are made of words.
use Rattle.std.proofs.Common.{◌≡◌, ℕ, ◌+◌, ◌^◌, ◌<◌, List, [], ◌∷◌, ◌++◌, All, get_or, length, map, Option, None, Some, codes, refl, arith}
use Rattle.std.specs.Fmt.{decimal}
use Rattle.std.specs.FinMap as finite
use Rattle.std.specs.List.{flat_map, range_with_len}
use Rattle.std.proofs.lemmas.List.Elements.{All-append, All-cons, All-head, All-map, All-nil, All-tail}
use Rattle.rl_value.specs.Fits.{RowsFit}
use Rattle.rl_value.specs.Rows.{Rows}
use Rattle.rl_value.specs.Tables.{Table, IsTable, IsSchema, name_of, size_of}
use Rattle.rl_txn.specs.Fits.{TxnFits}
use Rattle.rl_txn.specs.declared.op.Op.{Op}
use Rattle.rl_text.specs.Printed.{Line}
use Rattle.rl_text.proofs.WordsBack.{IsWord, decimal_is_word, numbers_are_words, one_number, one_word}
use Rattle.rl_events.specs.Fits.{EventFits}
use Rattle.rl_events.specs.Printed.{event_words}
use Rattle.rl_events.specs.declared.event.Event.{Event}
use Rattle.rl_events.proofs.ReadBack.{event_words_are_words, small_by_fit}
use Rattle.rl_script.specs.declared.script.Script.{Script}
use Rattle.rl_script.specs.Fits.{ColumnsFit, ScriptFits}
use Rattle.rl_script.specs.Printed.{event_lines, header_line, list_lines, op_words, row_lines, rows_of_table, script_lines, setting_lines, stop_line, table_line, txn_lines}
use Rattle.rl_script.proofs.FitsLemmas.{few_keys}
use Rattle.rl_script.proofs.OpsBack.{name_is_word, op_words_are_words, table_name_is_word}

-- lines that are made of words
abbrev AreWords : List Line → Type 0
AreWords lines = All (All IsWord) lines

each_of : {A : Type 0} (f : A → List Line) → (xs : List A) → ((x : A) → AreWords (f x)) → AreWords (flat_map f xs)
each_of f [] all = All-nil (All IsWord)
each_of f (x ∷ xs) all = All-append (All IsWord) (f x) (flat_map f xs) (all x) (each_of f xs all)

settings_are : (script : Script) → ScriptFits script → AreWords (setting_lines script)
settings_are script fits =
    let seed : List Line = (codes "seed" ∷ decimal script.seed ∷ []) ∷ map stop_line script.stops in
    let loss : List Line = (codes "loss" ∷ decimal script.loss ∷ []) ∷ seed in
    let batch : List Line = (codes "batch" ∷ decimal script.batch ∷ []) ∷ loss in
    let workers : List Line = (codes "workers" ∷ decimal script.workers ∷ []) ∷ batch in
    All-cons (All IsWord) (codes "nodes" ∷ decimal script.nodes ∷ []) workers (one_number (codes "nodes") script.nodes (omega arith, refl) (omega (arith, fits.nodes.1)))
    (All-cons (All IsWord) (codes "workers" ∷ decimal script.workers ∷ []) batch (one_number (codes "workers") script.workers (omega arith, refl) (omega (arith, fits.workers.1)))
    (All-cons (All IsWord) (codes "batch" ∷ decimal script.batch ∷ []) loss (one_number (codes "batch") script.batch (omega arith, refl) (omega (arith, fits.batch.1)))
    (All-cons (All IsWord) (codes "loss" ∷ decimal script.loss ∷ []) seed (one_number (codes "loss") script.loss (omega arith, refl) (omega (arith, fits.loss)))
    (All-cons (All IsWord) (codes "seed" ∷ decimal script.seed ∷ []) (map stop_line script.stops) (one_number (codes "seed") script.seed (omega arith, refl) fits.seed)
    (All-map (All IsWord) stop_line script.stops (λ k d within. one_number (codes "stop") (get_or script.stops k d) (omega arith, refl) (omega (arith, (fits.stops k d within).1))))))))

table_is : (table : Table) → IsTable table → All IsWord (table_line table)
table_is table ok =
    All-cons IsWord (codes "table") (table.name ∷ decimal table.size ∷ decimal table.columns ∷ []) (omega arith, refl) (All-cons IsWord table.name (decimal table.size ∷ decimal table.columns ∷ []) (name_is_word table.name ok.named)
    (one_number (decimal table.size) table.columns (decimal_is_word table.size (omega (arith, ok.few_keys))) (omega (arith, ok.few_columns))))

row_is : (tables : List Table) (rows : Rows) (t k : ℕ) → IsSchema tables → RowsFit tables rows → ColumnsFit rows → AreWords (row_lines (name_of tables t) k (finite.get rows (t, k)))
row_is tables rows t k ok fit columns = go (finite.get rows (t, k)) refl
  where
    go : (o : Option (List ℕ)) → finite.get rows (t, k) ≡ o → AreWords (row_lines (name_of tables t) k o)
    go None is = All-nil (All IsWord)
    go (Some row) is =
        let at = fit t k row is in
        All-cons (All IsWord) (codes "row" ∷ name_of tables t ∷ decimal k ∷ map decimal row) []
        (All-cons IsWord (codes "row") (name_of tables t ∷ decimal k ∷ map decimal row) (omega arith, refl) (All-cons IsWord (name_of tables t) (decimal k ∷ map decimal row) (table_name_is_word tables t ok at.0)
        (All-cons IsWord (decimal k) (map decimal row) (decimal_is_word k (omega (arith, at.1, few_keys tables ok t))) (numbers_are_words row (columns t k row is)))))
        (All-nil (All IsWord))

txn_is : (tables : List Table) (worker : ℕ) (txn : List Op) → IsSchema tables → worker < 2 ^ 64 → TxnFits tables txn → AreWords (txn_lines tables worker txn)
txn_is tables worker txn ok small fits =
    All-cons (All IsWord) (codes "txn" ∷ decimal worker ∷ []) (map (op_words tables) txn ++ (codes "end" ∷ []) ∷ []) (one_number (codes "txn") worker (omega arith, refl) small)
    (All-append (All IsWord) (map (op_words tables) txn) ((codes "end" ∷ []) ∷ [])
    (All-map (All IsWord) (op_words tables) txn (λ k d within. op_words_are_words tables (get_or txn k d) ok (fits.each k d within)))
    (All-cons (All IsWord) (codes "end" ∷ []) [] (one_word (codes "end") (omega arith, refl)) (All-nil (All IsWord))))

list_is : (tables : List Table) (worker : ℕ) (list : List (List Op)) → IsSchema tables → worker < 2 ^ 64 → All (TxnFits tables) list → AreWords (flat_map (txn_lines tables worker) list)
list_is tables worker [] ok small all = All-nil (All IsWord)
list_is tables worker (txn ∷ list) ok small all =
    All-append (All IsWord) (txn_lines tables worker txn) (flat_map (txn_lines tables worker) list)
    (txn_is tables worker txn ok small (All-head (TxnFits tables) txn list all)) (list_is tables worker list ok small (All-tail (TxnFits tables) txn list all))

lists_are : (tables : List Table) (worker : ℕ) (lists : List (List (List Op))) → IsSchema tables → worker + length lists < 2 ^ 64 → All (All (TxnFits tables)) lists → AreWords (list_lines tables worker lists)
lists_are tables worker [] ok small all = All-nil (All IsWord)
lists_are tables worker (list ∷ lists) ok small all =
    All-append (All IsWord) (flat_map (txn_lines tables worker) list) (list_lines tables (worker + 1) lists)
    (list_is tables worker list ok (omega arith) (All-head (All (TxnFits tables)) list lists all)) (lists_are tables (worker + 1) lists ok (omega arith) (All-tail (All (TxnFits tables)) list lists all))

events_are : (nodes workers : ℕ) (events : List Event) → nodes < 2 ^ 64 → workers < 2 ^ 64 → All (EventFits nodes workers) events → AreWords (event_lines events)
events_are nodes workers [] few less all = All-nil (All IsWord)
events_are nodes workers (e ∷ events) few less all =
    All-cons (All IsWord) (codes "events" ∷ []) (map event_words (e ∷ events)) (one_word (codes "events") (omega arith, refl))
    (All-map (All IsWord) event_words (e ∷ events) (λ k d within. event_words_are_words (get_or (e ∷ events) k d) (small_by_fit nodes workers (get_or (e ∷ events) k d) few less (all k d within))))

pub lines_are_words : (script : Script) → ScriptFits script → IsSchema script.schema → All (All IsWord) (script_lines script)
lines_are_words script fits ok =
    let settings : List Line = setting_lines script in
    let tables : List Line = map table_line script.schema in
    let rows : List Line = flat_map (rows_of_table script.schema script.rows) (range_with_len 0 (length script.schema)) in
    let txns : List Line = list_lines script.schema 1 script.lists in
    let events : List Line = event_lines script.events in
    let rows_are : AreWords rows = each_of (rows_of_table script.schema script.rows) (range_with_len 0 (length script.schema)) (λ t.
    each_of (λ key. row_lines (name_of script.schema t) key (finite.get script.rows (t, key))) (range_with_len 0 (size_of script.schema t)) (λ k. row_is script.schema script.rows t k ok fits.rows fits.columns)) in
    All-cons (All IsWord) header_line (settings ++ tables ++ rows ++ txns ++ events) (All-cons IsWord (codes "rolis") (codes "1" ∷ []) (omega arith, refl) (one_word (codes "1") (omega arith, refl)))
    (All-append (All IsWord) (settings ++ tables ++ rows ++ txns) events
    (All-append (All IsWord) (settings ++ tables ++ rows) txns
    (All-append (All IsWord) (settings ++ tables) rows
    (All-append (All IsWord) settings tables (settings_are script fits) (All-map (All IsWord) table_line script.schema (λ k d within. table_is (get_or script.schema k d) (ok.each k d within))))
    rows_are)
    (lists_are script.schema 1 script.lists ok (omega (arith, fits.one_list_each, fits.workers.1)) fits.lists.each))
    (events_are script.nodes script.workers script.events (omega (arith, fits.nodes.1)) (omega (arith, fits.workers.1)) fits.events.each))
