use Rattle.rl_nodes.proofs.Growing.{events_only_add, runs_only_add}
use Rattle.rl_nodes.proofs.laws.only_adds.Goals as goal

pub returns-clause-event : goal.returns-clause-event
returns-clause-event c = events_only_add

pub returns-clause-run : goal.returns-clause-run
returns-clause-run c = runs_only_add
