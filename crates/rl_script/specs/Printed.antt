-- The one printed form of a script: its lines, and the words of each.
use Rattle.std.specs.Prelude.{ℕ, ◌+◌, List, [], ◌∷◌, ◌++◌, length, map, Option, Some, None, codes}
use Rattle.std.specs.List.{flat_map, range_with_len}
use Rattle.std.specs.Fmt.{decimal}
use Rattle.std.specs.FinMap as finite
use Rattle.rl_value.specs.Rows.{Rows}
use Rattle.rl_value.specs.Tables.{Table, name_of, size_of}
use Rattle.rl_txn.specs.declared.op.Op.{Op}
use Rattle.rl_txn.specs.declared.op.Op.TheVariants as op
use Rattle.rl_txn.specs.declared.op.Operand.{Operand}
use Rattle.rl_txn.specs.declared.op.Operand.TheVariants.{Reg, Num}
use Rattle.rl_txn.specs.declared.op.Rel.{Rel}
use Rattle.rl_txn.specs.declared.op.Rel.TheVariants.{Eq, Ne, Lt, Le, Gt, Ge}
use Rattle.rl_text.specs.Printed.{Line, text_of}
use Rattle.rl_events.specs.Printed.{event_words}
use Rattle.rl_events.specs.declared.event.Event.{Event}
use Rattle.rl_script.specs.declared.script.Script.{Script}

-- `r` and a number
abbrev pub register_word : ℕ → List ℕ
register_word r = 114 ∷ decimal r

-- a register or a number
abbrev pub operand_word : Operand → List ℕ
operand_word (Reg r) = register_word r
operand_word (Num n) = decimal n

-- the word of a relation
abbrev pub relation_word : Rel → List ℕ
relation_word Eq = codes "eq"
relation_word Ne = codes "ne"
relation_word Lt = codes "lt"
relation_word Le = codes "le"
relation_word Gt = codes "gt"
relation_word Ge = codes "ge"

-- the line of an op
abbrev pub op_words : List Table → Op → Line
op_words tables (op.Set d a) = codes "set" ∷ register_word d ∷ operand_word a ∷ []
op_words tables (op.Add d a b) = codes "add" ∷ register_word d ∷ operand_word a ∷ operand_word b ∷ []
op_words tables (op.Sub d a b) = codes "sub" ∷ register_word d ∷ operand_word a ∷ operand_word b ∷ []
op_words tables (op.Mul d a b) = codes "mul" ∷ register_word d ∷ operand_word a ∷ operand_word b ∷ []
op_words tables (op.Get t k c d) = codes "get" ∷ name_of tables t ∷ operand_word k ∷ decimal c ∷ register_word d ∷ []
op_words tables (op.Has t k d) = codes "has" ∷ name_of tables t ∷ operand_word k ∷ register_word d ∷ []
op_words tables (op.Put t k values) = codes "put" ∷ name_of tables t ∷ operand_word k ∷ map operand_word values
op_words tables (op.Del t k) = codes "del" ∷ name_of tables t ∷ operand_word k ∷ []
op_words tables (op.Scan t k n c d) =
    codes "scan" ∷ name_of tables t ∷ operand_word k ∷ decimal n ∷ decimal c ∷ register_word d ∷ []
op_words tables (op.Need a rel b) = codes "need" ∷ operand_word a ∷ relation_word rel ∷ operand_word b ∷ []
op_words tables (op.Skip a rel b n) = codes "skip" ∷ operand_word a ∷ relation_word rel ∷ operand_word b ∷ decimal n ∷ []
op_words tables (op.Out a) = codes "out" ∷ operand_word a ∷ []

-- `rolis 1`
abbrev pub header_line : Line
header_line = codes "rolis" ∷ codes "1" ∷ []

-- `stop D`
abbrev pub stop_line : ℕ → Line
stop_line d = codes "stop" ∷ decimal d ∷ []

-- the settings, each of which is printed, and the stops
abbrev pub setting_lines : Script → List Line
setting_lines script =
    (codes "nodes" ∷ decimal script.nodes ∷ [])
    ∷ (codes "workers" ∷ decimal script.workers ∷ [])
    ∷ (codes "batch" ∷ decimal script.batch ∷ [])
    ∷ (codes "loss" ∷ decimal script.loss ∷ [])
    ∷ (codes "seed" ∷ decimal script.seed ∷ [])
    ∷ map stop_line script.stops

-- `table NAME SIZE COLUMNS`
abbrev pub table_line : Table → Line
table_line table = codes "table" ∷ table.name ∷ decimal table.size ∷ decimal table.columns ∷ []

-- the line of a row, where it is present
abbrev pub row_lines : (name : List ℕ) (key : ℕ) → Option (List ℕ) → List Line
row_lines name key None = []
row_lines name key (Some row) = (codes "row" ∷ name ∷ decimal key ∷ map decimal row) ∷ []

-- the rows of the table of a number, by key
abbrev pub rows_of_table : List Table → Rows → (t : ℕ) → List Line
rows_of_table tables rows t =
    flat_map (λ key. row_lines (name_of tables t) key (finite.get rows (t, key))) (range_with_len 0 (size_of tables t))

-- a transaction of a worker
abbrev pub txn_lines : List Table → (worker : ℕ) → List Op → List Line
txn_lines tables worker txn = (codes "txn" ∷ decimal worker ∷ []) ∷ map (op_words tables) txn ++ (codes "end" ∷ []) ∷ []

-- the transactions of the workers from the one of a number on
abbrev pub list_lines : List Table → (worker : ℕ) → List (List (List Op)) → List Line
list_lines tables worker [] = []
list_lines tables worker (list ∷ lists) = flat_map (txn_lines tables worker) list ++ list_lines tables (worker + 1) lists

-- `events` and the events, where there are any
abbrev pub event_lines : List Event → List Line
event_lines [] = []
event_lines (event ∷ events) = (codes "events" ∷ []) ∷ map event_words (event ∷ events)

-- all lines: the settings, the tables, the rows by table and key, the transactions by list and place,
-- and the events
abbrev pub script_lines : Script → List Line
script_lines script =
    header_line ∷ setting_lines script ++ map table_line script.schema
    ++ flat_map (rows_of_table script.schema script.rows) (range_with_len 0 (length script.schema))
    ++ list_lines script.schema 1 script.lists ++ event_lines script.events

-- the text of a script
abbrev pub printed : Script → List ℕ
printed script = text_of (script_lines script)
