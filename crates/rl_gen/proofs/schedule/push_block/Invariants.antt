use Rattle.std.proofs.Common.{◌≡◌, ◌++◌}
use Rattle.rl_gen.specs.Events.{times, round}
use Rattle.rl_gen.proofs.schedule.push_block.Given as goal

abbrev pub invariant-loop-done : goal.invariant-loop-done
invariant-loop-done l = l.events ≡ l.fn.events ++ times l.done (round l.workers)
