-- What a right report of a run of threads is.
use Rattle.std.specs.Prelude.{◌≡◌, ℕ, ◌+◌, ◌-◌, ◌^◌, ◌<◌, ◌≤◌, List, [], length, map, All, Some}
use Rattle.std.specs.List.{range_with_len}
use Rattle.rl_base.specs.declared.stamp.Stamp.{Stamp}
use Rattle.rl_txn.specs.Serial.{numbered, rows_after, IsSerial, IsInLists, IsWhole}
use Rattle.rl_txn.specs.declared.item.Item.{Item}
use Rattle.rl_script.specs.declared.script.Script.{Script}
use Rattle.rl_report.specs.Lines.{item_line, row_lines}
use Rattle.rl_report.specs.Printed.{printed}
use Rattle.rl_report.specs.declared.block.Block.{Block}
use Rattle.rl_report.specs.declared.block.Head.TheVariants.{Plain}
use Rattle.rl_report.specs.declared.report.Report.{Report}
use Rattle.rl_report.specs.declared.report.Title.TheVariants.{Live}

-- a stamp in the ranges of an item: a seq is drawn from 2 on, and the greatest of all is an end mark's
pub record HasItemRange (s : Stamp) : Type 0 where
  pub some_epoch : 1 ≤ s.epoch
  pub few_epochs : s.epoch < 2 ^ 20
  pub low : 2 ≤ s.seq
  pub high : s.seq ≤ 2 ^ 40 - 2

-- a stamp keeps the stops: its epoch is one that a stop ends, or the one behind them; where that stop is D, its seq is at most D + 1
pub record KeepsStops (stops : List ℕ) (s : Stamp) : Type 0 where
  pub epoch : s.epoch ≤ length stops + 1
  pub stopped : (d : ℕ) → numbered stops s.epoch ≡ Some d → s.seq ≤ d + 1

-- a stamp that a run of threads may give
pub record MayGive (stops : List ℕ) (s : Stamp) : Type 0 where
  pub range : HasItemRange s
  pub keeps : KeepsStops stops s

-- the node of a number, with the rows after all items
abbrev pub node_after : Script → List Item → (node : ℕ) → Block
node_after script items node = record {
  node = node;
  head = Plain;
  streams = [];
  rows = row_lines script.schema (rows_after script.rows items);
}

-- the report of a run that decided these items
abbrev pub live_report : Script → List Item → Report
live_report script items = record {
  title = Live;
  middle = [];
  items = map item_line items;
  tables = [];
  blocks = map (node_after script items) (range_with_len 1 script.nodes);
}

-- items that a run of a script may have decided so far: one thread could have run them in this order, each list's in its order
pub record MayDecide (script : Script) (items : List Item) : Type 0 where
  pub serial : IsSerial script.schema script.lists script.rows items
  pub in_lists : IsInLists items
  pub stamps : All (λ item. MayGive script.stops item.stamp) items

-- a text is the report of a run that decided these items, which are all requests
pub record IsRight (script : Script) (text : List ℕ) (items : List Item) : Type 0 where
  pub prints : text ≡ printed (live_report script items)
  pub decided : MayDecide script items
  pub whole : IsWhole script.lists items
