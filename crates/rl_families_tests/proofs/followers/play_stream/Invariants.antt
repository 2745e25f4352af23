use Rattle.rl_families_tests.specs.Follows.{Follows}
use Rattle.rl_families_tests.proofs.followers.play_stream.Given as goal

abbrev pub invariant-loop-entry : goal.invariant-loop-entry
invariant-loop-entry l = Follows l.known l.replica l.family
