use Rattle.std.proofs.Common.{◌≡◌, ℕ, ◌+◌, ◌<◌, length, get_or}
use Rattle.rl_nodes.specs.Nodes.{new_node}
use Rattle.rl_node.specs.SetupOf.{setup_of}
use Rattle.rl_node.specs.Standing.{Stands}
use Rattle.rl_node.specs.declared.node.Node.{Node}
use Rattle.rl_world.specs.Standing.{answers}
use Rattle.rl_world.proofs.run.Run.new.Given as goal

-- the nodes so far
abbrev pub invariant-loop-before : goal.invariant-loop-before
invariant-loop-before l = record {
  count : length l.list.items ≡ l.before;
  each : (i : ℕ) (d : Node) → i < l.before → Stands (setup_of l.setup) (i + 1) (get_or l.list.items i d) (answers (new_node (setup_of l.setup)));
}
