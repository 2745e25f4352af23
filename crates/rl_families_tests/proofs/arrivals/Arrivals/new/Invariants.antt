use Rattle.std.proofs.Common.{◌≡◌, length}
use Rattle.rl_families_tests.proofs.arrivals.Arrivals.new.Given as goal

abbrev pub invariant-loop-stream : goal.invariant-loop-stream
invariant-loop-stream l = length l.lasts.items ≡ l._stream
