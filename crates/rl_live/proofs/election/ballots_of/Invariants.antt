use Rattle.std.proofs.Common.{◌≡◌, map, take}
use Rattle.rl_paxos.specs.Acceptors.{kept_ballot}
use Rattle.rl_live.proofs.election.ballots_of.Given as goal

abbrev pub invariant-loop-acceptor : goal.invariant-loop-acceptor
invariant-loop-acceptor l = l.ballots ≡ map (λ a. kept_ballot a 1) (take l.acceptor-index l.node)
