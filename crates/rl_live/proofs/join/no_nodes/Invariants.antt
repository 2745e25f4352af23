use Rattle.std.proofs.Common.{◌≡◌, replicate, []}
use Rattle.rl_live.proofs.join.no_nodes.Given as goal

abbrev pub invariant-loop-node : goal.invariant-loop-node
invariant-loop-node l = l.nodes ≡ replicate l._node []
