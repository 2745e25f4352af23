use Rattle.rl_safe.proofs.Messages as messages
use Rattle.rl_safe.proofs.laws.no_message_is_bad.Goals as goal

pub returns : goal.returns
returns c = messages.no_message_is_bad c.leader_logs.ensures.origins c.runs_are_led.ensures
