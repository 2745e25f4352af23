use Rattle.std.proofs.Common.{◌≡◌, ◌++◌, map}
use Rattle.std.specs.List.{range_with_len}
use Rattle.rl_events.specs.declared.event.Event.TheVariants.{Idle}
use Rattle.rl_gen.proofs.schedule.push_idles.Given as goal

abbrev pub invariant-loop-done : goal.invariant-loop-done
invariant-loop-done l = l.events ≡ l.fn.events ++ map (Idle 1) (range_with_len 1 l.done)
