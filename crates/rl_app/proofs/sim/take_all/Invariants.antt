use Rattle.std.proofs.Common.{take}
use Rattle.rl_node.specs.SetupOf.{setup_of}
use Rattle.rl_app.specs.Simulating.{HasTaken}
use Rattle.rl_app.proofs.sim.take_all.Given as goal

abbrev pub invariant-loop-event : goal.invariant-loop-event
invariant-loop-event l = HasTaken (setup_of l.fn.world.setup) (take l.event-index l.events) l.world
