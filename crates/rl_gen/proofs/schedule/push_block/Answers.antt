use Rattle.rl_gen.specs.Events.{round}
use Rattle.rl_gen.proofs.Repeats.{once_more}
use Rattle.rl_gen.proofs.schedule.push_block.Goals as goal

pub loop-done-preserved : goal.loop-done-preserved
loop-done-preserved c = once_more (round c.args.workers) c.loop-done.done _ _ _ c.loop-done.invariant c.in_ok-push_round.ensures
