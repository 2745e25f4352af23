use Rattle.std.proofs.Common.{◌≡◌, map, take}
use Rattle.rl_report.specs.Lines.{item_line}
use Rattle.rl_report.proofs.line.item_lines.Given as goal

abbrev pub invariant-loop-item : goal.invariant-loop-item
invariant-loop-item l = l.lines.items ≡ map item_line (take l.item-index l.item-items)
