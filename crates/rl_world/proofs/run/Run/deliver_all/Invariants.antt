use Rattle.std.proofs.Common.{◌≡◌, ◌-◌}
use Rattle.rl_node.specs.SetupOf.{setup_of}
use Rattle.rl_world.specs.Amid.{HasDelivered}
use Rattle.rl_world.specs.Moments.{Moment, IsAmid}
use Rattle.rl_world.specs.Standing.{IsSafe, StandsRun}
use Rattle.rl_world.proofs.run.Run.deliver_all.Given as goal

-- the messages up to the last number are delivered
abbrev pub invariant-loop-number : goal.invariant-loop-number
invariant-loop-number l = record {
  safe : IsSafe l.self;
  amid : IsAmid l.self;
  setup : l.self.setup ≡ l.fn.self.setup;
  delivered : (m : Moment (setup_of l.fn.self.setup)) → StandsRun l.fn.self m.world → HasDelivered (setup_of l.fn.self.setup) l.self m l.after;
}

abbrev pub decreases-loop-number : goal.decreases-loop-number
decreases-loop-number l = l.upto - l.after
