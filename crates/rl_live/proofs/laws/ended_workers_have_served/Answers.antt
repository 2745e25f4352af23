use Rattle.rl_live.proofs.Ending.{served}
use Rattle.rl_live.proofs.laws.ended_workers_have_served.Goals as goal

pub returns : goal.returns
returns c tables lists rows epoch family e = served tables lists rows epoch family e
