use Rattle.std.proofs.Common.{◌≡◌, replicate}
use Rattle.rl_paxos.specs.Acceptors.{new_acceptor}
use Rattle.rl_live.proofs.session.new_nodes.Given as goal

abbrev pub invariant-loop-node : goal.invariant-loop-node
invariant-loop-node l = l.all.items ≡ replicate l._node (replicate l.streams (new_acceptor 1))
