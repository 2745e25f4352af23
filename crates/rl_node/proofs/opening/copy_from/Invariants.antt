use Rattle.std.proofs.Common.{◌≡◌, take, drop}
use Rattle.rl_node.proofs.opening.copy_from.Given as goal

abbrev pub invariant-loop-i : goal.invariant-loop-i
invariant-loop-i l = l.copy ≡ drop l.from (take l.i l.items)
