use Rattle.rl_nodes.proofs.ChosenInRuns.{runs_have_chosen}
use Rattle.rl_nodes.proofs.Runs as runs
use Rattle.rl_nodes.proofs.laws.runs_are_streams.Goals as goal

pub returns-clause-same : goal.returns-clause-same
returns-clause-same c = runs.runs_are_streams

pub returns-clause-chosen : goal.returns-clause-chosen
returns-clause-chosen c = runs_have_chosen
