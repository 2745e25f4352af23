use Rattle.rl_paxos.proofs.Best.{best_is_recovered}
use Rattle.rl_paxos.proofs.laws.recovers.Goals as goal

pub returns : goal.returns
returns c = λ p promises s. best_is_recovered p promises s
