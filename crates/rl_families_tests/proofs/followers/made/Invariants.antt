use Rattle.std.proofs.Common.{◌≡◌, length}
use Rattle.rl_families_tests.proofs.followers.made.Given as goal

abbrev pub invariant-loop-batch : goal.invariant-loop-batch
invariant-loop-batch l = length l.arrivals.lasts.items ≡ l.streams
