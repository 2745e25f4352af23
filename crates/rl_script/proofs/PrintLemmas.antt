-- The text of lines that follow one another.
use Rattle.std.proofs.Common.{◌≡◌, ℕ, ◌+◌, ◌<◌, ◌≤◌, List, [], ◌∷◌, ◌++◌, Some, length, map, slice_get, take, codes, ap, sym, refl, ◌∙◌, zero, suc, add-one, append-nil, append_assoc, arith}
use Rattle.std.specs.List.{flat_map, range_with_len}
use Rattle.std.specs.Fmt.{decimal}
use Rattle.std.proofs.lemmas.Grind.{flat_map-append}
use Rattle.std.proofs.lemmas.List.{length-take, take_all, take_more}
use Rattle.std.proofs.lemmas.List.Folds.{flat_map-map}
use Rattle.std.proofs.lemmas.Option.{get_or_from_slice_get, slice_get_within}
use Rattle.rl_value.specs.Tables.{Table, name_of, size_of, columns_of}
use Rattle.rl_txn.specs.declared.op.Op.{Op}
use Rattle.rl_txn.proofs.Folds.{range_push}
use Rattle.rl_text.specs.Printed.{line_of, Line, text_of}
use Rattle.rl_text.proofs.Texts.{text_joined}
use Rattle.rl_events.specs.Printed.{event_line, event_words}
use Rattle.rl_events.specs.declared.event.Event.{Event}
use Rattle.rl_script.specs.Printed.{event_lines, header_line, list_lines, printed, rows_of_table, setting_lines, table_line, txn_lines}
use Rattle.rl_script.specs.declared.script.Script.{Script}

-- lines that go on with those of the next number
pub text_over_range : (f : ℕ → List Line) (n : ℕ) (before old new : List ℕ) → old ≡ before ++ text_of (flat_map f (range_with_len 0 n)) → new ≡ old ++ text_of (f n) → new ≡ before ++ text_of (flat_map f (range_with_len 0 (n + 1)))
text_over_range f n before old new is more =
    let one : range_with_len 0 (n + 1) ≡ range_with_len 0 n ++ n ∷ [] = rw add-one (range_push 0 n ∙ ap (λ x. range_with_len 0 n ++ x ∷ []) (omega arith)) in
    text_joined (flat_map f (range_with_len 0 n)) (f n) (flat_map f (range_with_len 0 (n + 1))) before old new
    (ap (flat_map f) one ∙ flat_map-append f (range_with_len 0 n) (n ∷ []) ∙ ap (λ ls. flat_map f (range_with_len 0 n) ++ ls) (append-nil (f n))) is more

table_push : (tables : List Table) (t : ℕ) → t < length tables → map table_line (take (suc t) tables) ≡ map table_line (take t tables) ++ (codes "table" ∷ name_of tables t ∷ decimal (size_of tables t) ∷ decimal (columns_of tables t) ∷ []) ∷ []
table_push [] t there = absurd (omega arith)
table_push (x ∷ tables) zero there = refl
table_push (x ∷ tables) (suc t) there = ap (λ ls. table_line x ∷ ls) (table_push tables t (omega arith))

-- the lines of tables go on with the next table's
pub table_more : (tables : List Table) (t : ℕ) → t < length tables → map table_line (take (t + 1) tables) ≡ map table_line (take t tables) ++ (codes "table" ∷ name_of tables t ∷ decimal (size_of tables t) ∷ decimal (columns_of tables t) ∷ []) ∷ []
table_more tables t there = rw add-one (table_push tables t there)

list_push : (tables : List Table) (worker : ℕ) (lists : List (List (List Op))) (list : List (List Op)) → list_lines tables worker (lists ++ list ∷ []) ≡ list_lines tables worker lists ++ flat_map (txn_lines tables (worker + length lists)) list
list_push tables worker [] list = append-nil (flat_map (txn_lines tables worker) list) ∙ ap (λ w. flat_map (txn_lines tables w) list) (omega arith)
list_push tables worker (x ∷ lists) list =
    ap (λ ls. flat_map (txn_lines tables worker) x ++ ls) (list_push tables (worker + 1) lists list ∙ ap (λ w. list_lines tables (worker + 1) lists ++ flat_map (txn_lines tables w) list) (omega arith))
    ∙ sym (append_assoc (flat_map (txn_lines tables worker) x) (list_lines tables (worker + 1) lists) (flat_map (txn_lines tables (worker + length (x ∷ lists))) list))

-- the lines of lists go on with the next list's
pub list_more : (tables : List Table) (lists : List (List (List Op))) (i : ℕ) (list : List (List Op)) → slice_get lists i ≡ Some list → list_lines tables 1 (take (i + 1) lists) ≡ list_lines tables 1 (take i lists) ++ flat_map (txn_lines tables (i + 1)) list
list_more tables lists i list is =
    let there = slice_get_within lists i list is in
    ap (list_lines tables 1) (take_more lists i list there ∙ ap (λ x. take i lists ++ x ∷ []) (get_or_from_slice_get lists i list list is))
    ∙ list_push tables 1 (take i lists) list ∙ ap (λ w. list_lines tables 1 (take i lists) ++ flat_map (txn_lines tables w) list) (omega (arith, there, length-take i lists))

-- the events after `events`
pub events_done : (events : List Event) (i : ℕ) (before new : List ℕ) → 0 < length events → length events ≤ i → new ≡ before ++ codes "events\n" ++ flat_map (λ e. event_line e ++ 10 ∷ []) (take i events) → new ≡ before ++ text_of (event_lines events)
events_done [] i before new some past is = absurd (omega arith)
events_done (event ∷ events) i before new some past is =
    is ∙ ap (λ ys. before ++ codes "events\n" ++ flat_map (λ e. event_line e ++ 10 ∷ []) ys) (take_all i (event ∷ events) past)
    ∙ append_assoc before (codes "events\n") (flat_map (λ e. event_line e ++ 10 ∷ []) (event ∷ events))
    ∙ ap (λ t. before ++ (codes "events\n" ++ t)) (sym (flat_map-map (λ words. line_of words ++ 10 ∷ []) event_words (event ∷ events)))

-- the parts of a script's text
pub script_done : (script : Script) (first settings tables rows lists text : List ℕ) → first ≡ codes "rolis 1\n" → settings ≡ first ++ text_of (setting_lines script) → tables ≡ settings ++ text_of (map table_line script.schema) → rows ≡ tables ++ text_of (flat_map (rows_of_table script.schema script.rows) (range_with_len 0 (length script.schema))) → lists ≡ rows ++ text_of (list_lines script.schema 1 script.lists) → text ≡ lists ++ text_of (event_lines script.events) → text ≡ printed script
script_done script first settings tables rows lists text a b c d e f =
    let one = join (header_line ∷ []) (setting_lines script) first settings a b in
    let two = join (header_line ∷ setting_lines script) (map table_line script.schema) settings tables one c in
    let three = join (header_line ∷ setting_lines script ++ map table_line script.schema) all_rows tables rows two d in
    let four = join (header_line ∷ setting_lines script ++ map table_line script.schema ++ all_rows) (list_lines script.schema 1 script.lists) rows lists three e in
    join (header_line ∷ setting_lines script ++ map table_line script.schema ++ all_rows ++ list_lines script.schema 1 script.lists) (event_lines script.events) lists text four f
  where
    all_rows : List Line
    all_rows = flat_map (rows_of_table script.schema script.rows) (range_with_len 0 (length script.schema))

    join : (xs ys : List Line) (old new : List ℕ) → old ≡ text_of xs → new ≡ old ++ text_of ys → new ≡ text_of (xs ++ ys)
    join xs ys old new is more = text_joined xs ys (xs ++ ys) [] old new refl is more
