use Rattle.std.proofs.Common.{◌≡◌}
use Rattle.rl_streams_tests.proofs.candidates.one_log_of_three_and_no_slot_of_another.Given as goal

abbrev pub invariant-loop-node : goal.invariant-loop-node
invariant-loop-node g l = l.candidate.streams ≡ 1
