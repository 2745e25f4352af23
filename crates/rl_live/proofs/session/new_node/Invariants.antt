use Rattle.std.proofs.Common.{◌≡◌, replicate}
use Rattle.rl_paxos.specs.Acceptors.{new_acceptor}
use Rattle.rl_live.proofs.session.new_node.Given as goal

abbrev pub invariant-loop-stream : goal.invariant-loop-stream
invariant-loop-stream l = l.acceptors ≡ replicate l._stream (new_acceptor 1)
