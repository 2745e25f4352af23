use Rattle.std.proofs.Common.{◌≡◌, take}
use Rattle.rl_txn.proofs.batch.copy_items.Given as goal

abbrev pub invariant-loop-item : goal.invariant-loop-item
invariant-loop-item l = l.copy.items ≡ take l.item-index l.item-items
