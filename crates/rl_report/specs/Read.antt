-- The report that a text is, or the first line that is wrong.
use Rattle.std.specs.Prelude.{ℕ, ◌+◌, ◌-◌, Bool, true, false, not, ◌&&◌, ◌||◌, List, [], ◌∷◌, length, ◌==◌, Result, Ok, Err, if◌then◌else◌, codes}
use Rattle.rl_base.specs.Results.{◌>>=◌}
use Rattle.rl_text.specs.Printed.{Line}
use Rattle.rl_report.specs.declared.fault.Fault.{Fault}
use Rattle.rl_report.specs.declared.fault.ReportFault.{ReportFault}
use Rattle.rl_report.specs.declared.fault.ReportFault.TheVariants.{Form, Count, End}
use Rattle.rl_report.specs.declared.line.ItemLine.{ItemLine}
use Rattle.rl_report.specs.declared.line.RowLine.{RowLine}
use Rattle.rl_report.specs.declared.line.StreamLine.{StreamLine}
use Rattle.rl_report.specs.declared.block.Block.{Block}
use Rattle.rl_report.specs.declared.block.Head.{Head}
use Rattle.rl_report.specs.declared.block.Head.TheVariants.{Up, Down, Plain}
use Rattle.rl_report.specs.declared.middle.Middle.{Middle}
use Rattle.rl_report.specs.declared.middle.Middle.TheVariants.{Shown}
use Rattle.rl_report.specs.declared.report.Title.{Title}
use Rattle.rl_report.specs.declared.report.Title.TheVariants.{Serial, Steps, Sim, Live}
use Rattle.rl_report.specs.declared.report.Report.{Report}
use Rattle.rl_report.specs.Readers.{Reader, always, both, made, choice, several, many}
use Rattle.rl_report.specs.Words.{OfWords, lines_in, is_ended, begins, behind, short, long, exactly, whole}
use Rattle.rl_report.specs.LineForms.{title_of, item, row, stream, simulated, node, refused, effect}

-- a reader of lines
abbrev pub OfLines : Type 0 → Type 0
OfLines A = Reader Line Fault A

-- something is wrong with the first of these lines
abbrev pub fault_at : List Line → ReportFault → Fault
fault_at lines kind = record { left = length lines; kind = kind }

-- the next line; `End` where none is left
abbrev pub next_line : OfLines Line
next_line [] = Err (fault_at [] End)
next_line (line ∷ lines) = Ok (line, lines)

-- what the first of some lines stands for, or what is wrong with it
abbrev pub told : {A : Type 0} → (lines rest : List Line) → Result A ReportFault → Result (A × List Line) Fault
told lines rest (Ok a) = Ok (a, rest)
told lines rest (Err kind) = Err (fault_at lines kind)

-- a line that is read so
unfoldable pub one_line : {A : Type 0} → (Line → Result A ReportFault) → OfLines A
one_line read lines = next_line lines >>= λ x. told lines x.1 (read x.0)

-- a line of one form
abbrev pub one : {A : Type 0} → OfWords A → OfLines A
one r = one_line (whole r)

-- whether the first word of the next line is this one
abbrev pub next_begins : (due : List ℕ) → List Line → Bool
next_begins due [] = false
next_begins due (line ∷ lines) = begins due line

-- the line of an item, where one is due
abbrev pub due_item : Line → Result ItemLine ReportFault
due_item line = if begins (codes "item") line then whole item line else Err Count

-- no more lines of items come
abbrev pub no_more_items : {A : Type 0} → A × List Line → Result (A × List Line) Fault
no_more_items a = if next_begins (codes "item") a.1 then Err (fault_at a.1 Count) else Ok a

-- how many items come
abbrev pub count : OfLines ℕ
count = one (behind (codes "items") long)

-- `items` and how many, and so many items
unfoldable pub items : OfLines (List ItemLine)
items lines =
    count lines >>= λ n. several n.0 (one_line due_item) n.1 >>= no_more_items

-- rows, as long as they come
unfoldable pub rows : OfLines (List RowLine)
rows lines = many (length lines + 1) (λ n. next_begins (codes "row")) (λ n. one row) 1 lines

-- `tables`
abbrev pub tables_line : OfWords (Unit {0})
tables_line = behind (codes "tables") (always {A = Unit {0}} tt)

-- `tables` and rows
unfoldable pub tables : OfLines (List RowLine)
tables lines = one tables_line lines >>= λ x. rows x.1

-- one stream, and more as long as they come
unfoldable pub streams : OfLines (List StreamLine)
streams lines = many (length lines + 1) (λ n lines. (n == 1) || next_begins (codes "stream") lines) (λ n. one (stream n)) 1 lines

-- whether the streams of a node in this state are reported
abbrev pub has_streams : Head → Bool
has_streams (Up promised role watermark at) = true
has_streams (Down promised) = true
has_streams head = false

-- whether its rows are
abbrev pub has_rows : Head → Bool
has_rows (Up promised role watermark at) = true
has_rows Plain = true
has_rows head = false

-- some lines, where they are reported
abbrev pub where_reported : {A : Type 0} → Bool → OfLines (List A) → OfLines (List A)
where_reported reported r = if reported then r else always []

-- the streams and the rows of a node, behind its line
unfoldable pub parts : (node : ℕ) → Head → OfLines Block
parts node head = made (λ x. record { node = node; head = head; streams = x.0; rows = x.1 })
    (both (where_reported (has_streams head) streams) (where_reported (has_rows head) rows))

-- a node: its line, its streams and its rows
unfoldable pub block : OfWords (ℕ × Head) → OfLines Block
block r lines = one r lines >>= λ x. parts x.0.0 x.0.1 x.1

-- one node by its number, and more up to the end of the text
unfoldable pub nodes : OfWords Head → OfLines (List Block)
nodes head lines = many (length lines + 1) (λ n lines. (n == 1) || not (length lines == 0)) (λ n. block (node (exactly n) head)) 1 lines

-- attempts that were refused, up to the count of items
unfoldable pub refusals : OfLines (List Middle)
refusals lines = many (length lines + 1) (λ n lines. not (next_begins (codes "items") lines)) (λ n. one refused) 1 lines

-- what became of an event
unfoldable pub any_effect : OfLines Middle
any_effect = choice (next_begins (codes "node")) (made Shown (block (node short simulated))) (one effect)

-- what became of events, up to the count of items
unfoldable pub effects : OfLines (List Middle)
effects lines = many (length lines + 1) (λ n lines. not (next_begins (codes "items") lines)) (λ n. any_effect) 1 lines

-- what a report of each title has
unfoldable pub body : Title → OfLines Report
body Serial = made (λ x. record { title = Serial; middle = []; items = x.0; tables = x.1; blocks = [] }) (both items tables)
body Steps = made (λ x. record { title = Steps; middle = x.0; items = x.1.0; tables = x.1.1; blocks = [] }) (both refusals (both items tables))
body Sim = made (λ x. record { title = Sim; middle = x.0; items = x.1.0; tables = []; blocks = x.1.1 }) (both effects (both items (nodes simulated)))
body Live = made (λ x. record { title = Live; middle = []; items = x.0; tables = []; blocks = x.1 }) (both items (nodes (always Plain)))

-- a report behind which no line is left
abbrev pub no_line_left : Report → List Line → Result Report Fault
no_line_left report [] = Ok report
no_line_left report (line ∷ lines) = Err (fault_at (line ∷ lines) Form)

-- the report that some lines are
unfoldable pub read_lines : List Line → Result Report Fault
read_lines lines = one_line title_of lines >>= λ title. body title.0 title.1 >>= λ x. no_line_left x.0 x.1

-- a fault by its line, where so many lines are ended or not: the last line is at fault where it isn't
abbrev pub numbered_fault : (count : ℕ) → (ended : Bool) → Fault → ℕ × ReportFault
numbered_fault count ended fault =
    if not ended && (fault.left == 0) then (count, End) else (count + 1 - fault.left, fault.kind)

-- the report that a text is, or the first line that is wrong, counted from 1, and what is wrong
abbrev pub read_report : List ℕ → Result Report (ℕ × ReportFault)
read_report text = elim (read_lines (lines_in text)) [
  | Ok report ↦ if is_ended text then Ok report else Err (length (lines_in text), End)
  | Err fault ↦ Err (numbered_fault (length (lines_in text)) (is_ended text) fault)
]
