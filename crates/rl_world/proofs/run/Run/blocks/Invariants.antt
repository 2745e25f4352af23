use Rattle.std.proofs.Common.{◌≡◌, map, All}
use Rattle.std.specs.List.{range_with_len}
use Rattle.rl_nodes.specs.World.{World, block_of}
use Rattle.rl_node.specs.SetupOf.{setup_of}
use Rattle.rl_report.specs.Forms.{IsSimulated}
use Rattle.rl_world.specs.Reported.{block_reported}
use Rattle.rl_world.specs.Standing.{StandsRun}
use Rattle.rl_world.proofs.run.Run.blocks.Given as goal

-- the nodes so far
abbrev pub invariant-loop-before : goal.invariant-loop-before
invariant-loop-before l = record {
  blocks : (w : World) → StandsRun l.self w → l.blocks.items
      ≡ map (λ a. block_reported (setup_of l.self.setup).program.tables (block_of (setup_of l.self.setup) w a)) (range_with_len 1 l.before);
  form : All IsSimulated l.blocks.items;
}
