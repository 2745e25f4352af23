use Rattle.rl_safe.proofs.Messages as messages
use Rattle.rl_safe.proofs.laws.messages_are_in_range.Goals as goal

pub returns-clause-in_range : goal.returns-clause-in_range
returns-clause-in_range c = messages.messages_are_in_range c.leader_logs.ensures.origins c.runs_are_led.ensures

pub returns-clause-read_back : goal.returns-clause-read_back
returns-clause-read_back c =
    messages.messages_read_back c.reads_back.ensures.read_back (messages.messages_are_in_range c.leader_logs.ensures.origins c.runs_are_led.ensures)

pub returns-clause-receivers : goal.returns-clause-receivers
returns-clause-receivers c = messages.messages_have_receivers c.leader_logs.ensures.origins
