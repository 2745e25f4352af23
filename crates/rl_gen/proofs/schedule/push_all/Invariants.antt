use Rattle.std.proofs.Common.{◌≡◌, ◌++◌, replicate}
use Rattle.rl_events.specs.declared.event.Event.TheVariants.{All}
use Rattle.rl_gen.proofs.schedule.push_all.Given as goal

abbrev pub invariant-loop-done : goal.invariant-loop-done
invariant-loop-done l = l.events ≡ l.fn.events ++ replicate l.done All
