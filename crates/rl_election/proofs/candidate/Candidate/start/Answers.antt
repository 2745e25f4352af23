use Rattle.std.proofs.Common.{arith}
use Rattle.rl_election.proofs.Room.{empty_fits}
use Rattle.rl_election.proofs.candidate.Candidate.start.Goals as goal

pub invariant_of-result : goal.invariant_of-result
invariant_of-result c = rw c.in_ok-with_capacity.ensures.items (empty_fits c.args.nodes c.args.streams c.args.need _ c.requires.some c.requires.within (omega (arith, c.ranges.nodes.fits)) (omega (arith, c.in_ok-with_capacity.ensures.exact)))
