use Rattle.rl_events.specs.declared.event.Event.TheVariants.{PlayAll}
use Rattle.rl_gen.proofs.Repeats.{of_the_next}
use Rattle.rl_gen.proofs.schedule.push_plays.Goals as goal

pub loop-done-preserved : goal.loop-done-preserved
loop-done-preserved c = of_the_next PlayAll c.loop-done.done _ _ _ c.loop-done.invariant c.in_ok-push.ensures.ok
