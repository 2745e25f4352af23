use Rattle.std.proofs.Common.{◌≡◌, take}
use Rattle.rl_node.proofs.sending.front.Given as goal

abbrev pub invariant-loop-batch : goal.invariant-loop-batch
invariant-loop-batch l = l.front.items ≡ take l.batch-index l.batch-items
