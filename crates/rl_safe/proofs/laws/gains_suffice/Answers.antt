use Rattle.rl_safe.proofs.Gains as gains
use Rattle.rl_safe.proofs.laws.gains_suffice.Goals as goal

pub returns : goal.returns
returns c = gains.gains_suffice c.leader_logs.ensures.origins c.runs_are_led.ensures
