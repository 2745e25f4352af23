use Rattle.std.proofs.Common.{◌≡◌, map}
use Rattle.std.specs.List.{range_with_len}
use Rattle.rl_paxos.specs.Acceptors.{kept_log}
use Rattle.rl_node.proofs.node.Node.logs.Given as goal

abbrev pub invariant-loop-before : goal.invariant-loop-before
invariant-loop-before l = l.logs ≡ map (λ s. kept_log l.self.acceptor s) (range_with_len 1 l.before)
