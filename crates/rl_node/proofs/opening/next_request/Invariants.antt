use Rattle.std.proofs.Common.{◌≡◌, ◌+◌, drop, length}
use Rattle.rl_txn.specs.Serial.{indexes_of}
use Rattle.rl_node.proofs.opening.next_request.Given as goal

abbrev pub invariant-loop-item : goal.invariant-loop-item
invariant-loop-item l = l.next + length (indexes_of l.worker (drop l.item-index l.items)) ≡ 1 + length (indexes_of l.worker l.items)
