-- The printed form of a script is short enough to be read.
use Rattle.std.proofs.Common.{◌≡◌, ℕ, ◌+◌, ◌*◌, ◌-◌, ◌^◌, ◌<◌, ◌≤◌, List, [], ◌∷◌, ◌++◌, All, get_or, length, map, slice_get, sum_by, true, Option, None, Some, IfSome, codes, refl, ap, subst, arith, length-append}
use Rattle.std.specs.Fmt.{decimal}
use Rattle.std.specs.FinMap as finite
use Rattle.std.specs.List.{AllByRecursion, flat_map, range_with_len}
use Rattle.std.specs.Option.{option_map_or}
use Rattle.std.proofs.lemmas.Bool.Decides.{nat_tests}
use Rattle.std.proofs.lemmas.Fmt.{length-decimal-le}
use Rattle.std.proofs.lemmas.Grind.{flat_map-append}
use Rattle.std.proofs.lemmas.List.{length-map}
use Rattle.std.proofs.lemmas.List.Elements.{All-cons, All-from_recursion, All-head, All-map, All-tail}
use Rattle.std.proofs.lemmas.List.FromFn.{length-range_with_len}
use Rattle.std.proofs.lemmas.List.Sums.{sum_by-cons}
use Rattle.std.proofs.lemmas.Option.{get_or_from_slice_get, slice_get_within}
use Rattle.rl_value.specs.Fits.{RowsFit}
use Rattle.rl_value.specs.Names.{is_name}
use Rattle.rl_value.specs.Rows.{Rows}
use Rattle.rl_value.specs.Tables.{Table, IsTable, IsSchema, name_of, size_of, columns_of}
use Rattle.rl_txn.specs.Fits.{OperandFits, OpFits, TxnFits}
use Rattle.rl_txn.specs.declared.op.Op.{Op}
use Rattle.rl_txn.specs.declared.op.Op.TheVariants as op
use Rattle.rl_txn.specs.declared.op.Operand.{Operand}
use Rattle.rl_txn.specs.declared.op.Operand.TheVariants.{Reg, Num}
use Rattle.rl_txn.specs.declared.op.Rel.{Rel}
use Rattle.rl_txn.specs.declared.op.Rel.TheVariants.{Eq, Ne, Lt, Le, Gt, Ge}
use Rattle.rl_text.specs.Printed.{line_of, Line, text_of}
use Rattle.rl_events.specs.Fits.{EventFits, count_of}
use Rattle.rl_events.specs.Printed.{event_words}
use Rattle.rl_events.specs.declared.event.Event.{Event}
use Rattle.rl_events.specs.declared.event.Event.TheVariants as event
use Rattle.rl_events.proofs.ReadBack.{IsSmall, small_by_fit}
use Rattle.rl_script.specs.declared.script.Script.{Script}
use Rattle.rl_script.specs.Fits.{ColumnsFit, ScriptFits}
use Rattle.rl_script.specs.Printed.{event_lines, header_line, list_lines, op_words, operand_word, printed, register_word, relation_word, row_lines, rows_of_table, script_lines, setting_lines, stop_line, table_line, txn_lines}
use Rattle.rl_script.proofs.FitsLemmas.{few_keys}

-- words

-- a word is no longer than the longest number and a byte before it
abbrev IsShort : List ℕ → Type 0
IsShort word = length word ≤ 21

decimal_is_short : (n : ℕ) → n < 2 ^ 64 → IsShort (decimal n)
decimal_is_short n small = omega (arith, length-decimal-le 20 n (omega arith) (omega arith) small)

register_is_short : (r : ℕ) → r < 16 → IsShort (register_word r)
register_is_short r small = omega (arith, length-decimal-le 20 r (omega arith) (omega arith) (omega arith))

operand_is_short : (a : Operand) → OperandFits a → IsShort (operand_word a)
operand_is_short (Reg r) small = register_is_short r small
operand_is_short (Num n) small = decimal_is_short n small

relation_is_short : (rel : Rel) → IsShort (relation_word rel)
relation_is_short Eq = omega arith
relation_is_short Ne = omega arith
relation_is_short Lt = omega arith
relation_is_short Le = omega arith
relation_is_short Gt = omega arith
relation_is_short Ge = omega arith

name_is_short : (name : List ℕ) → is_name name ≡ true → IsShort name
name_is_short name h = let few : length name ≤ 16 = grind (arith, nat_tests) in omega arith

-- the table of a number, where there is one
table_at : (tables : List Table) (t : ℕ) → IsSchema tables → IfSome (slice_get tables t) IsTable
table_at tables t ok = go (slice_get tables t) refl
  where
    go : (o : Option Table) → slice_get tables t ≡ o → IfSome o IsTable
    go None is = tt
    go (Some table) is = subst IsTable (get_or_from_slice_get tables t table table is) (ok.each t table (slice_get_within tables t table is))

table_name_is_short : (tables : List Table) (t : ℕ) → IsSchema tables → IsShort (name_of tables t)
table_name_is_short tables t ok = go (slice_get tables t) (table_at tables t ok)
  where
    go : (o : Option Table) → IfSome o IsTable → IsShort (option_map_or (λ (table : Table). table.name) o [])
    go None is = omega arith
    go (Some table) is = name_is_short table.name is.named

few_columns : (tables : List Table) (t : ℕ) → IsSchema tables → columns_of tables t ≤ 4
few_columns tables t ok = go (slice_get tables t) (table_at tables t ok)
  where
    go : (o : Option Table) → IfSome o IsTable → option_map_or (λ (table : Table). table.columns) o 0 ≤ 4
    go None is = omega arith
    go (Some table) is = is.few_columns

-- lines

-- a line is no longer than one of seven short words
abbrev IsShortLine : Line → Type 0
IsShortLine words = length (line_of words) ≤ 154

joined : (words : Line) → All IsShort words → length (line_of words) ≤ 22 * length words
joined [] all = omega arith
joined (word ∷ []) all = omega (arith, All-head IsShort word [] all)
joined (word ∷ next ∷ words) all =
    omega (arith, length-append word (32 ∷ line_of (next ∷ words)), All-head IsShort word (next ∷ words) all, joined (next ∷ words) (All-tail IsShort word (next ∷ words) all))

few_words : (words : Line) → length words ≤ 7 → All IsShort words → IsShortLine words
few_words words few all = omega (arith, few, joined words all)

of_words : (words : Line) → length words ≤ 7 → AllByRecursion IsShort words → IsShortLine words
of_words words few each = few_words words few (All-from_recursion IsShort words each)

one_number : (word : List ℕ) (n : ℕ) → IsShort word → n < 2 ^ 64 → IsShortLine (word ∷ decimal n ∷ [])
one_number word n is small = of_words (word ∷ decimal n ∷ []) (omega arith) (is, (decimal_is_short n small, tt))

two_numbers : (word : List ℕ) (n m : ℕ) → IsShort word → n < 2 ^ 64 → m < 2 ^ 64 → IsShortLine (word ∷ decimal n ∷ decimal m ∷ [])
two_numbers word n m is small next = of_words (word ∷ decimal n ∷ decimal m ∷ []) (omega arith) (is, (decimal_is_short n small, (decimal_is_short m next, tt)))

event_is_short : (e : Event) → IsSmall e → IsShortLine (event_words e)
event_is_short (event.Step n w k) small =
    of_words (event_words (event.Step n w k)) (omega arith) (omega arith, (decimal_is_short n small.0, (decimal_is_short w small.1, (decimal_is_short k small.2, tt))))
event_is_short (event.Flush n w) small = two_numbers (codes "flush") n w (omega arith) small.0 small.1
event_is_short (event.Idle n w) small = two_numbers (codes "idle") n w (omega arith) small.0 small.1
event_is_short (event.Dlv k) small = one_number (codes "dlv") k (omega arith) small
event_is_short (event.Discard k) small = one_number (codes "drop") k (omega arith) small
event_is_short event.All small = omega arith
event_is_short (event.Elect n) small = one_number (codes "elect") n (omega arith) small
event_is_short (event.Tick n) small = one_number (codes "tick") n (omega arith) small
event_is_short (event.Crash n) small = one_number (codes "crash") n (omega arith) small
event_is_short (event.Back n) small = one_number (codes "back") n (omega arith) small
event_is_short (event.Lose n) small = one_number (codes "lose") n (omega arith) small
event_is_short (event.Play n s) small = two_numbers (codes "play") n s (omega arith) small.0 small.1
event_is_short (event.PlayAll n) small = one_number (codes "playall") n (omega arith) small
event_is_short (event.Show n) small = one_number (codes "show") n (omega arith) small
event_is_short (event.Random seed k) small = two_numbers (codes "random") seed k (omega arith) small.0 small.1

op_is_short : (tables : List Table) (op : Op) → IsSchema tables → OpFits tables op → IsShortLine (op_words tables op)
op_is_short tables (op.Set d a) ok fits = of_words (op_words tables (op.Set d a)) (omega arith) (omega arith, (register_is_short d fits.0, (operand_is_short a fits.1, tt)))
op_is_short tables (op.Add d a b) ok fits =
    of_words (op_words tables (op.Add d a b)) (omega arith) (omega arith, (register_is_short d fits.0, (operand_is_short a fits.1, (operand_is_short b fits.2, tt))))
op_is_short tables (op.Sub d a b) ok fits =
    of_words (op_words tables (op.Sub d a b)) (omega arith) (omega arith, (register_is_short d fits.0, (operand_is_short a fits.1, (operand_is_short b fits.2, tt))))
op_is_short tables (op.Mul d a b) ok fits =
    of_words (op_words tables (op.Mul d a b)) (omega arith) (omega arith, (register_is_short d fits.0, (operand_is_short a fits.1, (operand_is_short b fits.2, tt))))
op_is_short tables (op.Get t k c d) ok fits =
    of_words (op_words tables (op.Get t k c d)) (omega arith)
    (omega arith, (table_name_is_short tables t ok, (operand_is_short k fits.1, (decimal_is_short c (omega (arith, few_columns tables t ok, fits.2)), (register_is_short d fits.3, tt)))))
op_is_short tables (op.Has t k d) ok fits =
    of_words (op_words tables (op.Has t k d)) (omega arith) (omega arith, (table_name_is_short tables t ok, (operand_is_short k fits.1, (register_is_short d fits.2, tt))))
op_is_short tables (op.Put t k values) ok fits =
    few_words (op_words tables (op.Put t k values)) (omega (arith, length-map values operand_word, fits.4))
    (All-cons IsShort (codes "put") (name_of tables t ∷ operand_word k ∷ map operand_word values) (omega arith)
    (All-cons IsShort (name_of tables t) (operand_word k ∷ map operand_word values) (table_name_is_short tables t ok)
    (All-cons IsShort (operand_word k) (map operand_word values) (operand_is_short k fits.1)
    (All-map IsShort operand_word values (λ i d within. operand_is_short (get_or values i d) (fits.2 i d within))))))
op_is_short tables (op.Del t k) ok fits =
    of_words (op_words tables (op.Del t k)) (omega arith) (omega arith, (table_name_is_short tables t ok, (operand_is_short k fits.1, tt)))
op_is_short tables (op.Scan t k n c d) ok fits =
    of_words (op_words tables (op.Scan t k n c d)) (omega arith)
    (omega arith, (table_name_is_short tables t ok, (operand_is_short k fits.1, (decimal_is_short n (omega (arith, fits.3)), (decimal_is_short c (omega (arith, few_columns tables t ok, fits.4)), (register_is_short d fits.5, tt))))))
op_is_short tables (op.Need a rel b) ok fits =
    of_words (op_words tables (op.Need a rel b)) (omega arith) (omega arith, (operand_is_short a fits.0, (relation_is_short rel, (operand_is_short b fits.1, tt))))
op_is_short tables (op.Skip a rel b n) ok fits =
    of_words (op_words tables (op.Skip a rel b n)) (omega arith)
    (omega arith, (operand_is_short a fits.0, (relation_is_short rel, (operand_is_short b fits.1, (decimal_is_short n (omega (arith, fits.3)), tt)))))
op_is_short tables (op.Out a) ok fits = of_words (op_words tables (op.Out a)) (omega arith) (omega arith, (operand_is_short a fits, tt))

table_is_short : (table : Table) → IsTable table → IsShortLine (table_line table)
table_is_short table ok =
    of_words (table_line table) (omega arith)
    (omega arith, (name_is_short table.name ok.named, (decimal_is_short table.size (omega (arith, ok.few_keys)), (decimal_is_short table.columns (omega (arith, ok.few_columns)), tt))))

-- texts

-- lines take no more bytes than so many short lines, each with its line end
abbrev AreShort : ℕ → List Line → Type 0
AreShort n lines = length (text_of lines) ≤ 155 * n

first : (n : ℕ) (words : Line) (lines : List Line) → IsShortLine words → AreShort n lines → AreShort (1 + n) (words ∷ lines)
first n words lines short rest = omega (arith, length-append (line_of words ++ 10 ∷ []) (text_of lines), length-append (line_of words) (10 ∷ []), short, rest)

both : (n m : ℕ) (lines more : List Line) → AreShort n lines → AreShort m more → AreShort (n + m) (lines ++ more)
both n m lines more short rest =
    omega (arith, ap length (flat_map-append (λ words. line_of words ++ 10 ∷ []) lines more), length-append (text_of lines) (text_of more), short, rest)

each_line : {X : Type 0} (f : X → Line) → (xs : List X) → All (λ x. IsShortLine (f x)) xs → AreShort (length xs) (map f xs)
each_line f [] all = omega arith
each_line f (x ∷ xs) all = omega (arith, first (length xs) (f x) (map f xs) (All-head (λ x. IsShortLine (f x)) x xs all) (each_line f xs (All-tail (λ x. IsShortLine (f x)) x xs all)))

each_of : {X : Type 0} (n : ℕ) (f : X → List Line) → (xs : List X) → All (λ x. AreShort n (f x)) xs → AreShort (n * length xs) (flat_map f xs)
each_of n f [] all = omega arith
each_of n f (x ∷ xs) all =
    let here : AreShort (n + n * length xs) (flat_map f (x ∷ xs)) = both n (n * length xs) (f x) (flat_map f xs) (All-head (λ x. AreShort n (f x)) x xs all) (each_of n f xs (All-tail (λ x. AreShort n (f x)) x xs all)) in
    omega (arith, here)

settings_are : (script : Script) → ScriptFits script → AreShort 68 (setting_lines script)
settings_are script fits =
    let stops : List Line = map stop_line script.stops in
    let seed : List Line = (codes "seed" ∷ decimal script.seed ∷ []) ∷ stops in
    let loss : List Line = (codes "loss" ∷ decimal script.loss ∷ []) ∷ seed in
    let batch : List Line = (codes "batch" ∷ decimal script.batch ∷ []) ∷ loss in
    let workers : List Line = (codes "workers" ∷ decimal script.workers ∷ []) ∷ batch in
    let few : AreShort 63 stops = omega (arith, fits.few_stops, each_line stop_line script.stops (λ k d within. one_number (codes "stop") (get_or script.stops k d) (omega arith) (omega (arith, (fits.stops k d within).1)))) in
    first 67 (codes "nodes" ∷ decimal script.nodes ∷ []) workers (one_number (codes "nodes") script.nodes (omega arith) (omega (arith, fits.nodes.1)))
    (first 66 (codes "workers" ∷ decimal script.workers ∷ []) batch (one_number (codes "workers") script.workers (omega arith) (omega (arith, fits.workers.1)))
    (first 65 (codes "batch" ∷ decimal script.batch ∷ []) loss (one_number (codes "batch") script.batch (omega arith) (omega (arith, fits.batch.1)))
    (first 64 (codes "loss" ∷ decimal script.loss ∷ []) seed (one_number (codes "loss") script.loss (omega arith) (omega (arith, fits.loss)))
    (first 63 (codes "seed" ∷ decimal script.seed ∷ []) stops (one_number (codes "seed") script.seed (omega arith) fits.seed) few))))

row_is : (tables : List Table) (rows : Rows) (t k : ℕ) → IsSchema tables → RowsFit tables rows → ColumnsFit rows → AreShort 1 (row_lines (name_of tables t) k (finite.get rows (t, k)))
row_is tables rows t k ok fit columns = go (finite.get rows (t, k)) refl
  where
    go : (o : Option (List ℕ)) → finite.get rows (t, k) ≡ o → AreShort 1 (row_lines (name_of tables t) k o)
    go None is = omega arith
    go (Some row) is =
        let at = fit t k row is in
        let words : Line = codes "row" ∷ name_of tables t ∷ decimal k ∷ map decimal row in
        first 0 words [] (few_words words (omega (arith, length-map row decimal, at.2, few_columns tables t ok))
        (All-cons IsShort (codes "row") (name_of tables t ∷ decimal k ∷ map decimal row) (omega arith)
        (All-cons IsShort (name_of tables t) (decimal k ∷ map decimal row) (table_name_is_short tables t ok)
        (All-cons IsShort (decimal k) (map decimal row) (decimal_is_short k (omega (arith, at.1, few_keys tables ok t)))
        (All-map IsShort decimal row (λ i d within. decimal_is_short (get_or row i d) (columns t k row is i d within)))))))
        (omega arith)

table_rows_are : (tables : List Table) (rows : Rows) (t : ℕ) → IsSchema tables → RowsFit tables rows → ColumnsFit rows → AreShort 65536 (rows_of_table tables rows t)
table_rows_are tables rows t ok fit columns =
    let keys : List ℕ = range_with_len 0 (size_of tables t) in
    omega (
      arith,
      few_keys tables ok t,
      length-range_with_len 0 (size_of tables t),
      each_of 1 (λ key. row_lines (name_of tables t) key (finite.get rows (t, key))) keys (λ i d within. row_is tables rows t (get_or keys i d) ok fit columns),
    )

-- 16 tables of at most 65,536 keys
rows_are : (tables : List Table) (rows : Rows) → IsSchema tables → RowsFit tables rows → ColumnsFit rows → AreShort 1048576 (flat_map (rows_of_table tables rows) (range_with_len 0 (length tables)))
rows_are tables rows ok fit columns =
    let numbers : List ℕ = range_with_len 0 (length tables) in
    omega (arith, ok.few, length-range_with_len 0 (length tables), each_of 65536 (rows_of_table tables rows) numbers (λ i d within. table_rows_are tables rows (get_or numbers i d) ok fit columns))

-- at most 64 ops between the first line and the last
txn_is : (tables : List Table) (worker : ℕ) (txn : List Op) → IsSchema tables → worker < 2 ^ 64 → TxnFits tables txn → AreShort 66 (txn_lines tables worker txn)
txn_is tables worker txn ok small fits =
    let ops : List Line = map (op_words tables) txn in
    let few : AreShort 64 ops = omega (arith, fits.few, each_line (op_words tables) txn (λ k d within. op_is_short tables (get_or txn k d) ok (fits.each k d within))) in
    first 65 (codes "txn" ∷ decimal worker ∷ []) (ops ++ (codes "end" ∷ []) ∷ []) (one_number (codes "txn") worker (omega arith) small)
    (both 64 1 ops ((codes "end" ∷ []) ∷ []) few (omega arith))

lists_are : (tables : List Table) (worker : ℕ) (lists : List (List (List Op))) → IsSchema tables → worker + length lists < 2 ^ 64 → All (All (TxnFits tables)) lists → AreShort (66 * sum_by (λ l. length l) lists) (list_lines tables worker lists)
lists_are tables worker [] ok small all = omega arith
lists_are tables worker (list ∷ lists) ok small all =
    let fit = All-head (All (TxnFits tables)) list lists all in
    let sum : sum_by (λ l. length l) (list ∷ lists) ≡ length list + sum_by (λ l. length l) lists = sum_by-cons (λ l. length l) list lists in
    let here : AreShort (66 * length list) (flat_map (txn_lines tables worker) list) = each_of 66 (txn_lines tables worker) list (λ k d within. txn_is tables worker (get_or list k d) ok (omega arith) (fit k d within)) in
    let rest = lists_are tables (worker + 1) lists ok (omega arith) (All-tail (All (TxnFits tables)) list lists all) in
    omega (arith, sum, both (66 * length list) (66 * sum_by (λ l. length l) lists) (flat_map (txn_lines tables worker) list) (list_lines tables (worker + 1) lists) here rest)

-- each event counts
counts : (nodes workers : ℕ) (e : Event) → EventFits nodes workers e → 1 ≤ count_of e
counts nodes workers (event.Step n w k) fits = fits.2
counts nodes workers (event.Random seed k) fits = fits.1
counts nodes workers e fits = omega arith

few_events : (nodes workers : ℕ) (events : List Event) → All (EventFits nodes workers) events → length events ≤ sum_by count_of events
few_events nodes workers [] all = omega arith
few_events nodes workers (e ∷ events) all =
    omega (arith, sum_by-cons count_of e events, counts nodes workers e (All-head (EventFits nodes workers) e events all), few_events nodes workers events (All-tail (EventFits nodes workers) e events all))

events_are : (nodes workers : ℕ) (events : List Event) → nodes < 2 ^ 64 → workers < 2 ^ 64 → All (EventFits nodes workers) events → AreShort (1 + sum_by count_of events) (event_lines events)
events_are nodes workers [] few less all = omega arith
events_are nodes workers (e ∷ events) few less all =
    omega (
      arith,
      few_events nodes workers (e ∷ events) all,
      first (length (e ∷ events)) (codes "events" ∷ []) (map event_words (e ∷ events)) (omega arith)
          (each_line event_words (e ∷ events) (λ k d within. event_is_short (get_or (e ∷ events) k d) (small_by_fit nodes workers (get_or (e ∷ events) k d) few less (all k d within)))),
    )

pub printed_is_short : (script : Script) → ScriptFits script → length (printed script) < 2 ^ 32 - 1
printed_is_short script fits =
    let ok = fits.tables in
    let settings : List Line = setting_lines script in
    let tables : List Line = map table_line script.schema in
    let rows : List Line = flat_map (rows_of_table script.schema script.rows) (range_with_len 0 (length script.schema)) in
    let txns : List Line = list_lines script.schema 1 script.lists in
    let events : List Line = event_lines script.events in
    let few_tables : AreShort 16 tables = omega (arith, ok.few, each_line table_line script.schema (λ k d within. table_is_short (get_or script.schema k d) (ok.each k d within))) in
    let few_txns : AreShort 540672 txns = omega (arith, fits.lists.requests, lists_are script.schema 1 script.lists ok (omega (arith, fits.one_list_each, fits.workers.1)) fits.lists.each) in
    let few_lines : AreShort 100001 events = omega (arith, fits.events.counted, events_are script.nodes script.workers script.events (omega (arith, fits.nodes.1)) (omega (arith, fits.workers.1)) fits.events.each) in
    let all : AreShort 1689334 (script_lines script) =
    first 1689333 header_line (settings ++ tables ++ rows ++ txns ++ events) (omega arith)
    (both 1589332 100001 (settings ++ tables ++ rows ++ txns) events
    (both 1048660 540672 (settings ++ tables ++ rows) txns
    (both 84 1048576 (settings ++ tables) rows
    (both 68 16 settings tables (settings_are script fits) few_tables)
    (rows_are script.schema script.rows ok fits.rows fits.columns))
    few_txns)
    few_lines) in
    omega (arith, all)
