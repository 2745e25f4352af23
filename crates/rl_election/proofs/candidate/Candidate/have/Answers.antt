use Rattle.std.proofs.Common.{arith}
use Rattle.rl_paxos.proofs.Counting.{once_at_most}
use Rattle.rl_election.proofs.candidate.Candidate.have.Goals as goal

pub overflow_cast-result : goal.overflow_cast-result
overflow_cast-result c = omega (arith, once_at_most c.self.inside.nodes c.self.inside.promises.items c.self.invariant.once, c.self.invariant.short, c.len.ensures)
