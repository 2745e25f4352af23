use Rattle.rl_safe.proofs.JoinedSafe as joined
use Rattle.rl_safe.proofs.laws.led_runs_are_safe.Goals as goal

pub returns : goal.returns
returns c = joined.led_runs_are_safe
