use Rattle.std.proofs.Common.{◌≡◌, take}
use Rattle.std.specs.List.{flat_map}
use Rattle.rl_events.specs.Expanded.{expanded}
use Rattle.rl_events.proofs.expand.written_out.Given as goal

abbrev pub invariant-loop-event : goal.invariant-loop-event
invariant-loop-event l = l.written ≡ flat_map (expanded l.nodes l.workers) (take l.event-index l.events)
