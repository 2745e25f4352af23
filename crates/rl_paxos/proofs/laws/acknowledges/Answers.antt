use Rattle.rl_paxos.proofs.Acknowledged.{greatest_is_acknowledged}
use Rattle.rl_paxos.proofs.laws.acknowledges.Goals as goal

pub returns : goal.returns
returns c = λ quorum acked some within. greatest_is_acknowledged quorum acked some within
