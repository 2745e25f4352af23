-- What the line is that a word begins.
use Rattle.std.specs.Prelude.{ℕ, List, [], ◌∷◌, Option, Some, None, option_map, if◌then◌else◌, codes}
use Rattle.std.specs.Option.{option_or}
use Rattle.rl_text.specs.Meanings.{meaning}
use Rattle.rl_events.specs.Events.{event_word}
use Rattle.rl_script.specs.declared.draft.Section.{Section}
use Rattle.rl_script.specs.declared.line.OpWord.{OpWord}
use Rattle.rl_script.specs.declared.line.OpWord.TheVariants as ops
use Rattle.rl_script.specs.declared.line.LineKind.{LineKind}
use Rattle.rl_script.specs.declared.line.LineKind.TheVariants.{Setting, Table, Row, Txn, End, Op, Events, Event}
use Rattle.rl_script.specs.Sections.{is_events}
use Rattle.rl_script.specs.Settings.{setting_word}

-- which op a first word begins
abbrev pub op_word : List ℕ → Option OpWord
op_word = meaning {A = OpWord}
    ((codes "set", ops.Set) ∷ (codes "add", ops.Add) ∷ (codes "sub", ops.Sub) ∷ (codes "mul", ops.Mul)
    ∷ (codes "get", ops.Get) ∷ (codes "has", ops.Has) ∷ (codes "put", ops.Put) ∷ (codes "del", ops.Del)
    ∷ (codes "scan", ops.Scan) ∷ (codes "need", ops.Need) ∷ (codes "skip", ops.Skip) ∷ (codes "out", ops.Out) ∷ [])

-- the lines of which there is one form each
abbrev pub plain_kind : List ℕ → Option LineKind
plain_kind = meaning {A = LineKind}
    ((codes "table", Table) ∷ (codes "row", Row) ∷ (codes "txn", Txn) ∷ (codes "end", End) ∷ (codes "events", Events) ∷ [])

-- an event's word begins a line in the section of events alone
abbrev pub event_kind : Section → List ℕ → Option LineKind
event_kind section word = if is_events section then option_map Event (event_word word) else None

-- what the line of a section is that a word begins, if it begins one
abbrev pub line_kind : Section → List ℕ → Option LineKind
line_kind section word =
    option_or (plain_kind word) (option_or (option_map Setting (setting_word word)) (option_or (option_map Op (op_word word)) (event_kind section word)))
