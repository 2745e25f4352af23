use Rattle.std.proofs.Common.{◌≤◌, length, arith}
use Rattle.rl_election.proofs.Rule.{each_is_recovered}
use Rattle.rl_election.proofs.candidate.Candidate.recover.Goals as goal

pub returns-clause-rule : goal.returns-clause-rule
returns-clause-rule c = λ s first last.
    let some : 1 ≤ length c.args.self.now.promises = omega (arith, c.self.invariant.some, c.have-have.ensures) in
    rw c.in_ok-copies.ensures (each_is_recovered c.args.self.now.promises c.args.self.now.streams s some first last)
