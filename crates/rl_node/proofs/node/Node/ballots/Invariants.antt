use Rattle.std.proofs.Common.{◌≡◌, map}
use Rattle.std.specs.List.{range_with_len}
use Rattle.rl_paxos.specs.Acceptors.{kept_ballot}
use Rattle.rl_node.proofs.node.Node.ballots.Given as goal

abbrev pub invariant-loop-before : goal.invariant-loop-before
invariant-loop-before l = l.ballots ≡ map (λ s. kept_ballot l.self.acceptor s) (range_with_len 1 l.before)
