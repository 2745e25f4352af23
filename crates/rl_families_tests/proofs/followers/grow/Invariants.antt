use Rattle.std.proofs.Common.{◌≡◌, length}
use Rattle.rl_families_tests.proofs.followers.grow.Given as goal

abbrev pub invariant-loop-batch : goal.invariant-loop-batch
invariant-loop-batch l = record {
  family : length l.family ≡ l.streams;
  arrivals : length l.arrivals.lasts.items ≡ l.streams;
}
