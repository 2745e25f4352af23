-- What a script says, line by line, or what is wrong with its first wrong line.
use Rattle.std.specs.Prelude.{ℕ, ◌+◌, ◌-◌, Bool, false, not, ◌&&◌, List, [], ◌∷◌, ◌++◌, length, slice_index, sum_by, replicate, ◌==◌, nat_lt, Some, None, is_some, unwrap_or, Result, Ok, Err, if◌then◌else◌, codes}
use Rattle.std.specs.Option.{option_map_or}
use Rattle.std.specs.Str.{bytes_eq}
use Rattle.std.specs.FinMap as map
use Rattle.rl_base.specs.Lists.{with_last}
use Rattle.rl_base.specs.declared.limit.TheConstants.{ELECTIONS, EVENTS, OPS, RECORDS, REQUESTS, TABLES}
use Rattle.rl_base.specs.declared.limit.LimitName.TheVariants as limits
use Rattle.rl_base.specs.Results.{◌>>=◌}
use Rattle.rl_value.specs.Names.{is_name}
use Rattle.rl_value.specs.Declare.{refusal}
use Rattle.rl_value.specs.Tables.{Table, size_of}
use Rattle.rl_value.specs.declared.schema.DeclareError.TheVariants.{DuplicateTable, TooManyTables}
use Rattle.rl_txn.specs.declared.op.Op.{Op}
use Rattle.rl_text.specs.Text.{lines_of, words_of, is_printable}
use Rattle.rl_events.specs.Events.{read_event}
use Rattle.rl_events.specs.Fits.{count_of, elections_of}
use Rattle.rl_events.specs.Words.{number, within}
use Rattle.rl_events.specs.declared.kind.Kind.{Kind}
use Rattle.rl_events.specs.declared.event.Event.{Event}
use Rattle.rl_events.specs.declared.kind.Kind.TheVariants.{Byte, Header, Word, Order, Count, Name, Duplicate, Unended}
use Rattle.rl_script.specs.declared.draft.Section.TheVariants as section
use Rattle.rl_script.specs.declared.draft.Draft.{Draft}
use Rattle.rl_script.specs.declared.script.Script.{Script}
use Rattle.rl_script.specs.declared.settings.Settings.{Settings}
use Rattle.rl_script.specs.declared.fault.Problem.{Problem}
use Rattle.rl_script.specs.declared.fault.Problem.TheVariants.{Fault, Limit}
use Rattle.rl_script.specs.declared.line.LineKind.{LineKind}
use Rattle.rl_script.specs.declared.line.LineKind.TheVariants as line
use Rattle.rl_script.specs.Problems.{as_problem}
use Rattle.rl_script.specs.Sections.{is_settings, is_before_requests, is_events}
use Rattle.rl_script.specs.Lines.{line_kind}
use Rattle.rl_script.specs.Operations.{table_for, each_word, read_op}
use Rattle.rl_script.specs.Settings.{no_settings, nodes_of, workers_of, with_setting}

-- the draft with other settings: each worker has an empty list
abbrev pub with_settings : Draft → Settings → Draft
with_settings draft settings = record draft { settings = settings; lists = replicate (workers_of settings) [] }

-- `table NAME SIZE COLUMNS`
unfoldable pub read_table : (name size columns : List ℕ) → Result Table Kind
read_table name size columns = do
  name ← if is_name name then Ok name else Err Name
  size ← within 1 RECORDS size
  columns ← within 1 4 columns
  Ok (record { name = name; size = size; columns = columns })

-- a new table joins the others, unless something keeps it from being declared
abbrev pub with_table : Draft → Table → Result Draft Problem
with_table draft table = elim (refusal table.name table.size draft.schema) [
  | None ↦ Ok (record draft { section = section.Tables; schema = draft.schema ++ table ∷ [] })
  | Some DuplicateTable ↦ Err (Fault Duplicate)
  | Some TooManyTables ↦ Err (Limit limits.Tables TABLES)
  | Some e ↦ Err (Limit limits.Records RECORDS)
]

-- `row NAME KEY C0` up to the last column: a row that is not given before, KEY below the table's size
unfoldable pub row_joined : Draft → List ℕ → List ℕ → List (List ℕ) → Result Draft Problem
row_joined draft name key cells = do
  t ← as_problem (table_for draft.schema name (length cells))
  key ← as_problem (within 0 (size_of draft.schema t - 1) key)
  cells ← as_problem (each_word number cells)
  if is_some (map.get draft.rows (t, key)) then Err (Fault Duplicate)
      else Ok (record draft { section = section.Tables; rows = map.insert draft.rows (t, key) cells })

-- a worker's next request is open
abbrev pub with_txn : Draft → (worker : ℕ) → Result Draft Problem
with_txn draft worker =
    if sum_by length draft.lists == REQUESTS then Err (Limit limits.Requests REQUESTS)
    else Ok (record draft { section = section.Transactions; current = Some (record { worker = worker; txn = [] }) })

-- `end`: the open transaction becomes the last request of its list
abbrev pub txn_ended : Draft → Draft
txn_ended draft =
    option_map_or (λ current. record draft { lists = with_last draft.lists (current.worker - 1) current.txn; current = None }) draft.current draft

-- an op becomes the last of the open transaction
abbrev pub with_op : Draft → Op → Result Draft Problem
with_op draft op = elim draft.current [
  | None ↦ Err (Fault Order)
  | Some current ↦ if length current.txn == OPS then Err (Limit limits.Ops OPS)
      else Ok (record draft { current = Some (record current { txn = current.txn ++ op ∷ [] }) })
]

-- one more event: an election too many comes first, then an event too many
abbrev pub scheduled : List Event → Event → Result (List Event) Problem
scheduled events event =
    if nat_lt ELECTIONS (sum_by elections_of events + elections_of event) then Err (Limit limits.Elections ELECTIONS)
    else (if nat_lt EVENTS (sum_by count_of events + count_of event) then Err (Limit limits.Events EVENTS)
    else Ok (events ++ event ∷ []))

-- the draft with one more event
abbrev pub with_event : Draft → Event → Result Draft Problem
with_event draft event = scheduled draft.events event >>= λ events. Ok (record draft { events = events })

-- whether a line of a kind can stand here: settings, then tables and rows, then transactions, then the events;
-- ops and `end` inside a transaction, and nothing else there
abbrev pub in_order : Draft → LineKind → Bool
in_order draft (line.Setting word) = is_settings draft.section
in_order draft line.Table = is_before_requests draft.section
in_order draft line.Row = is_before_requests draft.section
in_order draft line.Txn = not (is_some draft.current) && not (is_events draft.section)
in_order draft line.End = is_some draft.current
in_order draft (line.Op word) = is_some draft.current
in_order draft line.Events = not (is_some draft.current) && not (is_events draft.section)
in_order draft (line.Event word) = is_events draft.section

-- a line of a kind, without its first word
abbrev pub read_kind : Draft → LineKind → List (List ℕ) → Result Draft Problem
read_kind draft (line.Setting word) (value ∷ []) = as_problem (with_setting draft.settings word value) >>= λ s. Ok (with_settings draft s)
read_kind draft line.Table (name ∷ size ∷ columns ∷ []) = as_problem (read_table name size columns) >>= with_table draft
read_kind draft line.Row (name ∷ key ∷ cells) = row_joined draft name key cells
read_kind draft line.Txn (worker ∷ []) = as_problem (within 1 (length draft.lists) worker) >>= with_txn draft
read_kind draft line.End [] = Ok (txn_ended draft)
read_kind draft (line.Op word) words = as_problem (read_op draft.schema word words) >>= with_op draft
read_kind draft line.Events [] = Ok (record draft { section = section.Events })
read_kind draft (line.Event word) words =
    as_problem (read_event (nodes_of draft.settings) (workers_of draft.settings) word words) >>= with_event draft
read_kind draft kind words = Err (Fault Count)

-- the words of a line: nothing, a comment, or a line of a kind that can stand here
unfoldable pub read_words : Draft → List (List ℕ) → Result Draft Problem
read_words draft [] = Ok draft
read_words draft (word ∷ words) =
    if slice_index word 0 == 35 then Ok draft
    else elim (line_kind draft.section word) [
      | None ↦ Err (Fault Word)
      | Some kind ↦ if in_order draft kind then read_kind draft kind words else Err (Fault Order)
    ]

-- a line after the first
unfoldable pub read_line : Draft → List ℕ → Result Draft Problem
read_line draft line = if is_printable line then read_words draft (words_of line) else Err (Fault Byte)

-- the lines from the one of a number on: what they say, or the first that something is wrong with; no transaction is
-- open where they end
unfoldable pub read_lines : ℕ → Draft → List (List ℕ) → Result Draft (ℕ × Problem)
read_lines number draft [] = if is_some draft.current then Err (number, Fault Unended) else Ok draft
read_lines number draft (line ∷ lines) = elim (read_line draft line) [
  | Ok next ↦ read_lines (number + 1) next lines
  | Err problem ↦ Err (number, problem)
]

-- `rolis 1`
abbrev pub is_header : List (List ℕ) → Bool
is_header (name ∷ version ∷ []) = bytes_eq name (codes "rolis") && bytes_eq version (codes "1")
is_header words = false

-- nothing is set or declared yet, and the one list is empty
abbrev pub opening_draft : Draft
opening_draft =
    record { section = section.Settings; settings = no_settings; schema = []; rows = map.empty; lists = [] ∷ []; current = None; events = [] }

-- all lines of a text, of which the first is `rolis 1`
abbrev pub read_text : List (List ℕ) → Result Draft (ℕ × Problem)
read_text [] = Err (1, Fault Header)
read_text (first ∷ lines) =
    if not (is_printable first) then Err (1, Fault Byte)
    else (if is_header (words_of first) then read_lines 2 opening_draft lines else Err (1, Fault Header))

-- the script of what the lines say; settings that are not given have their default values
abbrev pub script_of : Draft → Script
script_of draft = record {
  schema = draft.schema;
  rows = draft.rows;
  nodes = nodes_of draft.settings;
  workers = workers_of draft.settings;
  batch = unwrap_or draft.settings.batch 1;
  loss = unwrap_or draft.settings.loss 0;
  seed = unwrap_or draft.settings.seed 0;
  stops = draft.settings.stops;
  lists = draft.lists;
  events = draft.events;
}

-- the script that a text is, or the first line that breaks a rule or passes a limit, and which
unfoldable pub read : List ℕ → Result Script (ℕ × Problem)
read text = read_text (lines_of text) >>= λ draft. Ok (script_of draft)
