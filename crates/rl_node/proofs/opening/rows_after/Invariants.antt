use Rattle.std.proofs.Common.{◌≡◌, drop}
use Rattle.rl_txn.specs.Serial.{rows_after}
use Rattle.rl_node.proofs.opening.rows_after.Given as goal

abbrev pub invariant-loop-item : goal.invariant-loop-item
invariant-loop-item l = rows_after l.after (drop l.item-index l.items) ≡ rows_after l.rows l.items
