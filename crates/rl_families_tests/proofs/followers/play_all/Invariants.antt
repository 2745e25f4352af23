use Rattle.rl_families_tests.specs.Follows.{Follows}
use Rattle.rl_families_tests.proofs.followers.play_all.Given as goal

abbrev pub invariant-loop-before : goal.invariant-loop-before
invariant-loop-before l = Follows l.known l.replica l.family
