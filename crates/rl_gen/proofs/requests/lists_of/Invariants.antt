use Rattle.std.proofs.Common.{◌≡◌}
use Rattle.rl_gen.specs.Requests.{lists_of}
use Rattle.rl_gen.proofs.requests.lists_of.Given as goal

abbrev pub invariant-loop-done : goal.invariant-loop-done
invariant-loop-done l = l.lists ≡ lists_of l.seed l.workers l.done
