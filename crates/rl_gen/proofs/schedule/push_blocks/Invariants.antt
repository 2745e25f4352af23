use Rattle.std.proofs.Common.{◌≡◌, ◌++◌}
use Rattle.rl_gen.specs.Events.{times, block}
use Rattle.rl_gen.proofs.schedule.push_blocks.Given as goal

abbrev pub invariant-loop-done : goal.invariant-loop-done
invariant-loop-done l = l.events ≡ l.fn.events ++ times l.done (block l.workers)
