use Rattle.std.proofs.Common.{◌<◌, length}
use Rattle.std.specs.Prelude.{All}
use Rattle.rl_node.specs.SetupOf.{setup_of}
use Rattle.rl_node.specs.Standing.{IsNode}
use Rattle.rl_node_tests.proofs.group.Group.new.Given as goal

-- the nodes so far
abbrev pub invariant-loop-before : goal.invariant-loop-before
invariant-loop-before l = record {
  some : 0 < length l.list.items;
  each : All (IsNode (setup_of l.setup)) l.list.items;
}
