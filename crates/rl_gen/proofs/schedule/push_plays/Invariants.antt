use Rattle.std.proofs.Common.{◌≡◌, ◌++◌, map}
use Rattle.std.specs.List.{range_with_len}
use Rattle.rl_events.specs.declared.event.Event.TheVariants.{PlayAll}
use Rattle.rl_gen.proofs.schedule.push_plays.Given as goal

abbrev pub invariant-loop-done : goal.invariant-loop-done
invariant-loop-done l = l.events ≡ l.fn.events ++ map PlayAll (range_with_len 1 l.done)
