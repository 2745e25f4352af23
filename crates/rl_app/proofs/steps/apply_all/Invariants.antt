use Rattle.std.proofs.Common.{◌≡◌, take}
use Rattle.rl_txn.specs.Serial.{rows_after}
use Rattle.rl_app.proofs.steps.apply_all.Given as goal

abbrev pub invariant-loop-item : goal.invariant-loop-item
invariant-loop-item l = l.rows ≡ rows_after l.fn.rows (take l.item-index l.items)
