use Rattle.rl_gen.specs.Events.{block}
use Rattle.rl_gen.proofs.Repeats.{once_more}
use Rattle.rl_gen.proofs.schedule.push_blocks.Goals as goal

pub loop-done-preserved : goal.loop-done-preserved
loop-done-preserved c = once_more (block c.args.workers) c.loop-done.done _ _ _ c.loop-done.invariant c.in_ok-push_block.ensures
