use Rattle.std.proofs.Common.{◌≡◌, length}
use Rattle.rl_families_tests.proofs.families.follow.Given as goal

abbrev pub invariant-loop-step : goal.invariant-loop-step
invariant-loop-step g l = length l.family ≡ 3
