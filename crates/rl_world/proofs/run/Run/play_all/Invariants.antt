use Rattle.std.proofs.Common.{◌≡◌}
use Rattle.rl_nodes.specs.World.{World}
use Rattle.rl_node.specs.SetupOf.{setup_of}
use Rattle.rl_world.specs.Standing.{IsSafe, StandsRun}
use Rattle.rl_world.proofs.Playing.{HasPlayedSome}
use Rattle.rl_world.proofs.run.Run.play_all.Given as goal

-- so many streams are played
abbrev pub invariant-loop-before : goal.invariant-loop-before
invariant-loop-before l = record {
  safe : IsSafe l.self;
  setup : l.self.setup ≡ l.fn.self.setup;
  all : l.workers ≡ (setup_of l.fn.self.setup).workers;
  played : (w : World) → StandsRun l.fn.self w → HasPlayedSome (setup_of l.fn.self.setup) l.a l.self w l.before;
}
