use Rattle.std.proofs.Common.{◌≡◌, replicate}
use Rattle.rl_paxos.specs.Acceptors.{nothing_kept}
use Rattle.rl_acceptor.proofs.acceptor.Acceptor.new.Given as goal

abbrev pub invariant-loop-stream : goal.invariant-loop-stream
invariant-loop-stream l = l.kept.items ≡ replicate l._stream nothing_kept
