-- What a checker keeps of the items so far. No public contract cites it.
use Rattle.std.specs.Prelude.{◌≡◌, ℕ, ◌+◌, ◌-◌, List, ◌∷◌, [], ◌++◌, length, map, slice_index, Option, Some, None}
use Rattle.rl_value.specs.Rows.{Rows}
use Rattle.rl_txn.specs.Serial.{rows_after, request}
use Rattle.rl_txn.specs.declared.op.Op.{Op}
use Rattle.rl_txn.specs.declared.item.Item.{Item}
use Rattle.rl_script.specs.declared.script.Script.{Script}
use Rattle.rl_report.specs.Lines.{item_line}
use Rattle.rl_report.specs.declared.line.ItemLine.{ItemLine}
use Rattle.rl_report.specs.declared.line.RowLine.{RowLine}
use Rattle.rl_report.specs.declared.report.Report.{Report}
use Rattle.rl_check.specs.declared.rerun.Rerun.{Rerun}
use Rattle.rl_check.specs.declared.verdict.Verdict.{Verdict}
use Rattle.rl_check.specs.declared.verdict.Verdict.TheVariants.{Yes, No}
use Rattle.rl_check.specs.declared.verdict.Why.{Why}
use Rattle.rl_check.specs.declared.verdict.Why.TheVariants as why
use Rattle.rl_check.specs.Counts.{IsGreatest, CountsItems}
use Rattle.rl_check.specs.Right.{MayDecide}
use Rattle.rl_check.specs.Verdicts.{WrongItem, FirstWrongItem, AreRight, FirstWrongRow, OtherNodes}

-- a script with other opening rows
abbrev pub with_rows : Script → Rows → Script
with_rows script rows = record {
  schema = script.schema;
  rows = rows;
  nodes = script.nodes;
  workers = script.workers;
  batch = script.batch;
  loss = script.loss;
  seed = script.seed;
  stops = script.stops;
  lists = script.lists;
  events = script.events;
}

-- the requests of these items were run again
pub record HasRun (script : Script) (items : List Item) (rerun : Rerun) : Type 0 where
  pub decided : MayDecide script items
  pub rows : rerun.rows ≡ rows_after script.rows items
  pub last : IsGreatest items rerun.last
  pub counts : CountsItems (length script.lists) items rerun.counts.items

-- a line is of the next request of its list, where each list has so many items
pub record IsNextIn (lists : List (List (List Op))) (counts : List ℕ) (x : ItemLine) (txn : List Op) : Type 0 where
  pub request : request lists x.worker x.index ≡ Some txn
  pub next : x.index ≡ slice_index counts (x.worker - 1) + 1

-- one more item was run again, of which this is the line
pub record HasRunMore (script : Script) (items : List Item) (x : ItemLine) (rerun : Rerun) : Type 0 where
  pub item : Item
  pub line : x ≡ item_line item
  pub ran : HasRun script (items ++ item ∷ []) rerun

-- a line was run again, or is wrong for a reason
abbrev pub HasTaken : Script → List Item → ItemLine → Rerun → Option Why → Type 0
HasTaken script items x rerun None = HasRunMore script items x rerun
HasTaken script items x rerun (Some reason) = WrongItem script items x reason

-- these are the lines of items that were run again
pub record HasRunAll (script : Script) (lines : List ItemLine) (rerun : Rerun) : Type 0 where
  pub items : List Item
  pub of_items : lines ≡ map item_line items
  pub ran : HasRun script items rerun

-- a verdict on the first line of an item that is wrong
abbrev pub IsItemVerdict : Script → List ItemLine → Verdict → Type 0
IsItemVerdict script lines (Yes n) = ⊥
IsItemVerdict script lines (No line reason) = FirstWrongItem script lines line reason

-- ---- the nodes ----

-- the line of a row
abbrev pub IsRowLine : (name : List ℕ) (key : ℕ) (row : List ℕ) → RowLine → Type 0
IsRowLine name key row line = line ≡ record { table = name; key = key; row = row }

-- the verdict on the nodes of a report whose items are all requests
abbrev pub IsNodesVerdict : (nodes : ℕ) (due : List RowLine) → Report → Verdict → Type 0
IsNodesVerdict nodes due report (Yes n) = (n ≡ length report.items) × (length report.blocks ≡ nodes) × AreRight due report.blocks
IsNodesVerdict nodes due report (No line why.Table) = FirstWrongRow nodes due report line
IsNodesVerdict nodes due report (No line why.Nodes) = OtherNodes nodes due report line
IsNodesVerdict nodes due report (No line reason) = ⊥
