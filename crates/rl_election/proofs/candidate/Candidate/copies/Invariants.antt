use Rattle.std.proofs.Common.{◌≡◌}
use Rattle.rl_paxos.specs.Recovery.{recovered_logs}
use Rattle.rl_election.proofs.candidate.Candidate.copies.Given as goal

abbrev pub invariant-loop-s : goal.invariant-loop-s
invariant-loop-s l = l.logs ≡ recovered_logs l.self.promises l.s
