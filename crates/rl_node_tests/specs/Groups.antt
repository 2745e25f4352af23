-- The nodes of a run.
use Rattle.std.specs.Prelude.{◌<◌, ◌≤◌, ℕ, length, All}
use Rattle.rl_nodes.specs.Setups.{SetupFits}
use Rattle.rl_node.specs.SetupOf.{setup_of}
use Rattle.rl_node.specs.Standing.{IsNode}
use Rattle.rl_node_tests.specs.declared.group.Group.TheInside.{Inside}

-- there are some, and each is a node of the run
pub record IsGroup (g : Inside) : Type 0 where
  pub fits : SetupFits (setup_of g.setup)
  pub some : 0 < length g.nodes.items
  pub each : All (IsNode (setup_of g.setup)) g.nodes.items
