use Rattle.std.proofs.Common.{◌≡◌, length}
use Rattle.rl_families_tests.proofs.families.grown.Given as goal

abbrev pub invariant-loop-before : goal.invariant-loop-before
invariant-loop-before g l = length l.family ≡ 2
