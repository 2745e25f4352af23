use Rattle.rl_events.proofs.FiveWords.{parsed}
use Rattle.rl_events.proofs.line.parse_event.Goals as goal

pub returns-in-Ok-clause-event : goal.returns-in-Ok-clause-event
returns-in-Ok-clause-event c = parsed _ _ _ _ _ _ c.in-Some.ensures.some.1 c.in-Some.ensures.some.0 c.first_words-count.ensures.words c.in-Ok.ensures.event

pub returns-in-Err-clause-event : goal.returns-in-Err-clause-event
returns-in-Err-clause-event c = parsed _ _ _ _ _ _ c.in-Some.ensures.some.1 c.in-Some.ensures.some.0 c.first_words-count.ensures.words c.in-Err.ensures.event
