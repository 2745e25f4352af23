use Rattle.std.proofs.Common.{◌≡◌, ◌++◌, map, take}
use Rattle.rl_cut.proofs.Settling.{bound_stamp}
use Rattle.rl_cut.proofs.bounds.settle.Given as goal

abbrev pub invariant-loop-stamp : goal.invariant-loop-stamp
invariant-loop-stamp l = l.settled.items ≡ l.fn.settled.items ++ map (bound_stamp l.reached) (take l.stamp-index l.stamp-items)
