use Rattle.std.proofs.Common.{◌≡◌, ◌+◌, List, map, take}
use Rattle.rl_txn.specs.declared.item.Item.{Item}
use Rattle.rl_report.specs.Lines.{item_line}
use Rattle.rl_check.specs.Reruns.{HasRun, with_rows}
use Rattle.rl_check.proofs.check.rerun_items.Given as goal

abbrev pub invariant-loop-item : goal.invariant-loop-item
invariant-loop-item l = record {
  ran : (items : List Item) × HasRun (with_rows l.script l.fn.rows) items l.rerun × (take l.item-index l.lines ≡ map item_line items);
  line : l.line ≡ l.item-index + 3;
}
