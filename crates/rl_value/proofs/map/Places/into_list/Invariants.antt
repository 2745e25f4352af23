use Rattle.std.proofs.Common.{◌≡◌}
use Rattle.rl_value.proofs.map.Places.into_list.Given as goal

abbrev pub invariant-loop-entry : goal.invariant-loop-entry
invariant-loop-entry g l = l.list ≡ l.yielded
