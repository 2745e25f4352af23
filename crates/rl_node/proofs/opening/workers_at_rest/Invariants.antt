use Rattle.rl_node.specs.Opening.{AreAtRest}
use Rattle.rl_node.specs.SetupOf.{setup_of}
use Rattle.rl_node.proofs.opening.workers_at_rest.Given as goal

abbrev pub invariant-loop-before : goal.invariant-loop-before
invariant-loop-before l = AreAtRest (setup_of l.setup) l.epoch l.before l.items l.workers.items
