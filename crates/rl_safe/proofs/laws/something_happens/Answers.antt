use Rattle.rl_safe.proofs.Happens as happens
use Rattle.rl_safe.proofs.laws.something_happens.Goals as goal

pub returns : goal.returns
returns c = happens.some_run_releases
