use Rattle.std.proofs.Common.{◌≡◌, length}
use Rattle.rl_streams_tests.proofs.leaders.empty_batches.Given as goal

abbrev pub invariant-loop-slot : goal.invariant-loop-slot
invariant-loop-slot l = length l.log ≡ l._slot
