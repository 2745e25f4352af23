use Rattle.rl_paxos.proofs.Counting.{meet}
use Rattle.rl_paxos.proofs.laws.quorums_intersect.Goals as goal

pub returns : goal.returns
returns c = λ promised acked q. meet q.first q.second q.nodes promised acked q.above q.first_has q.second_has
