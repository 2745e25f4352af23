use Rattle.rl_nodes.proofs.Telling as telling
use Rattle.rl_nodes.proofs.laws.tests_tell.Goals as goal

pub returns : goal.returns
returns c = telling.tests_tell
