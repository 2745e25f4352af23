-- What a checker answers: that a report is right, or the first line that is wrong, and why.
use Rattle.std.specs.Prelude.{◌≡◌, ◌≢◌, ℕ, ◌+◌, ◌<◌, List, length, map, take, slice_get, sum_by, All, Some, Ok, Err}
use Rattle.rl_base.specs.Stamps.{packed}
use Rattle.rl_base.specs.declared.stamp.Stamp.{Stamp}
use Rattle.rl_txn.specs.Run.{run}
use Rattle.rl_txn.specs.Serial.{rows_after, request, indexes_of, IsWhole}
use Rattle.rl_txn.specs.declared.item.Item.{Item}
use Rattle.rl_txn.specs.declared.op.Op.{Op}
use Rattle.rl_script.specs.declared.script.Script.{Script}
use Rattle.rl_report.specs.Lines.{item_line, row_lines}
use Rattle.rl_report.specs.Read.{read_report}
use Rattle.rl_report.specs.declared.block.Block.{Block}
use Rattle.rl_report.specs.declared.fault.ReportFault.{ReportFault}
use Rattle.rl_report.specs.declared.line.ItemLine.{ItemLine}
use Rattle.rl_report.specs.declared.line.RowLine.{RowLine}
use Rattle.rl_report.specs.declared.report.Report.{Report}
use Rattle.rl_report.specs.declared.report.Title.TheVariants.{Live}
use Rattle.rl_check.specs.declared.verdict.Verdict.{Verdict}
use Rattle.rl_check.specs.declared.verdict.Verdict.TheVariants.{Yes, No}
use Rattle.rl_check.specs.declared.verdict.Why.{Why}
use Rattle.rl_check.specs.declared.verdict.Why.TheVariants as why
use Rattle.rl_check.specs.Right.{MayGive, MayDecide, IsRight}

-- ---- the items ----

-- a stamp behind some items may be given, and is above theirs
pub record MayFollow (stops : List ℕ) (items : List Item) (s : Stamp) : Type 0 where
  pub given : MayGive stops s
  pub above : All (λ item. packed item.stamp < packed s) items

-- the line behind some items is of the next request of its list
pub record IsNextOf (script : Script) (items : List Item) (x : ItemLine) (txn : List Op) : Type 0 where
  pub request : request script.lists x.worker x.index ≡ Some txn
  pub next : x.index ≡ length (indexes_of x.worker items) + 1

-- the line behind some items answers something else than its request on the rows after them
pub record AnswersOther (script : Script) (items : List Item) (x : ItemLine) (txn : List Op) : Type 0 where
  pub next : IsNextOf script items x txn
  pub other : (run script.schema txn (rows_after script.rows items)).0 ≢ x.reply

-- the line of an item, behind items that a run may have decided, is wrong for this reason: the stamp comes first, then the request,
-- and then the reply
abbrev pub WrongItem : Script → List Item → ItemLine → Why → Type 0
WrongItem script items x why.Stamp = MayFollow script.stops items x.stamp → ⊥
WrongItem script items x why.Request = MayFollow script.stops items x.stamp × ((txn : List Op) → IsNextOf script items x txn → ⊥)
WrongItem script items x why.Reply = MayFollow script.stops items x.stamp × ((txn : List Op) × AnswersOther script items x txn)
WrongItem script items x reason = ⊥

-- the first of these lines of items that is wrong: the items before it are those that a run may have decided; the first of all is in
-- line 3
pub record FirstWrongItem (script : Script) (lines : List ItemLine) (line : ℕ) (reason : Why) : Type 0 where
  pub items : List Item
  pub decided : MayDecide script items
  pub x : ItemLine
  pub before : take (length items) lines ≡ map item_line items
  pub there : slice_get lines (length items) ≡ Some x
  pub wrong : WrongItem script items x reason
  pub line_is : line ≡ length items + 3

-- these are the lines of items that a run may have decided
pub record AllDecided (script : Script) (lines : List ItemLine) (items : List Item) : Type 0 where
  pub of_items : lines ≡ map item_line items
  pub decided : MayDecide script items

-- ---- the nodes ----

-- these nodes have the rows due
abbrev pub AreRight : List RowLine → List Block → Type 0
AreRight due blocks = All (λ (b : Block). b.rows ≡ due) blocks

-- the line of the node of an index, counted from 0: behind the title, the count, the items and the nodes before it
abbrev pub node_line : Report → (i : ℕ) → ℕ
node_line report i = length report.items + 3 + sum_by (λ (b : Block). 1 + length b.rows) (take i report.blocks)

-- rows are those due up to an index, where the next one differs, is missing or is one too many
pub record DifferAt (due rows : List RowLine) (i : ℕ) : Type 0 where
  pub alike : take i rows ≡ take i due
  pub differ : slice_get rows i ≢ slice_get due i

-- the first node of the script that has other rows than those due: the line of its first row that differs, or that behind its last
-- where it ends early
pub record FirstWrongRow (nodes : ℕ) (due : List RowLine) (report : Report) (line : ℕ) : Type 0 where
  pub node : ℕ
  pub in_script : node < nodes
  pub block : Block
  pub there : slice_get report.blocks node ≡ Some block
  pub before : AreRight due (take node report.blocks)
  pub row : ℕ
  pub differs : DifferAt due block.rows row
  pub line_is : line ≡ node_line report node + 1 + row

-- another number of nodes than the script has, whose first ones are right: the line of the first one too many, or that behind the
-- last
pub record OtherNodes (nodes : ℕ) (due : List RowLine) (report : Report) (line : ℕ) : Type 0 where
  pub other : length report.blocks ≢ nodes
  pub before : AreRight due (take nodes report.blocks)
  pub line_is : line ≡ node_line report nodes

-- ---- the verdict ----

-- the rows that each node is to have
abbrev pub rows_due : Script → List Item → List RowLine
rows_due script items = row_lines script.schema (rows_after script.rows items)

-- these are the lines of items that are all requests of a script, as a run may have decided them
pub record AllThere (script : Script) (lines : List ItemLine) (items : List Item) : Type 0 where
  pub all : AllDecided script lines items
  pub whole : IsWhole script.lists items

-- what is wrong with the report of a run of threads
abbrev pub WrongLive : Script → Report → (line : ℕ) → Why → Type 0
WrongLive script report line why.Missing =
    (items : List Item) × AllDecided script report.items items × (IsWhole script.lists items → ⊥) × (line ≡ 2)
WrongLive script report line why.Table =
    (items : List Item) × AllThere script report.items items × FirstWrongRow script.nodes (rows_due script items) report line
WrongLive script report line why.Nodes =
    (items : List Item) × AllThere script report.items items × OtherNodes script.nodes (rows_due script items) report line
WrongLive script report line reason = FirstWrongItem script report.items line reason

-- the verdict on a text: it is right, or it is wrong for the first of the reasons, in their order, at its line
abbrev pub IsVerdict : Script → List ℕ → Verdict → Type 0
IsVerdict script text (Yes n) = (items : List Item) × IsRight script text items × (n ≡ length items)
IsVerdict script text (No line why.Form) = (kind : ReportFault) × (read_report text ≡ Err (line, kind))
IsVerdict script text (No line why.Title) = (report : Report) × (read_report text ≡ Ok report) × (report.title ≢ Live) × (line ≡ 1)
IsVerdict script text (No line reason) = (report : Report) × (read_report text ≡ Ok report) × (report.title ≡ Live) × WrongLive script report line reason
