use Rattle.rl_nodes.proofs.Growing as growing
use Rattle.rl_nodes.proofs.laws.runs_go_on.Goals as goal

pub returns : goal.returns
returns c = growing.runs_go_on
