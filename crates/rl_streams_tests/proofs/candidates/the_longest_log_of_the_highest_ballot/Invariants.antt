use Rattle.std.proofs.Common.{◌≡◌}
use Rattle.rl_streams_tests.proofs.candidates.the_longest_log_of_the_highest_ballot.Given as goal

abbrev pub invariant-loop-node : goal.invariant-loop-node
invariant-loop-node g l = l.candidate.streams ≡ 1
