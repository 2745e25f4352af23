use Rattle.std.proofs.Common.{◌≡◌, map, take}
use Rattle.rl_paxos.specs.Acceptors.{kept_log}
use Rattle.rl_live.proofs.election.logs_of.Given as goal

abbrev pub invariant-loop-acceptor : goal.invariant-loop-acceptor
invariant-loop-acceptor l = l.logs ≡ map (λ a. kept_log a 1) (take l.acceptor-index l.node)
