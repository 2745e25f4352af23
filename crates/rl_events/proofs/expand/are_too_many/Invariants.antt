use Rattle.std.proofs.Common.{◌≡◌, ◌+◌, sum_by, take}
use Rattle.rl_base.specs.declared.limit.TheConstants.{EVENTS}
use Rattle.rl_events.specs.Fits.{count_of}
use Rattle.rl_events.proofs.expand.are_too_many.Given as goal

abbrev pub invariant-loop-event : goal.invariant-loop-event
invariant-loop-event l = l.room + sum_by count_of (take l.event-index l.events) ≡ EVENTS
