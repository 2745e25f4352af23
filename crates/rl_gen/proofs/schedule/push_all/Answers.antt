use Rattle.rl_events.specs.declared.event.Event.TheVariants.{All}
use Rattle.rl_gen.proofs.Repeats.{same_once_more}
use Rattle.rl_gen.proofs.schedule.push_all.Goals as goal

pub loop-done-preserved : goal.loop-done-preserved
loop-done-preserved c = same_once_more All c.loop-done.done _ _ _ c.loop-done.invariant c.in_ok-push.ensures.ok
