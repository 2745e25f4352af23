use Rattle.rl_world.proofs.Expanding.{same_world}
use Rattle.rl_world.proofs.laws.expanded_runs_are_runs.Goals as goal

pub returns : goal.returns
returns c = same_world
