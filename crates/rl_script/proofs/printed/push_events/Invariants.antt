use Rattle.std.proofs.Common.{◌≡◌, [], ◌∷◌, ◌++◌, codes, take}
use Rattle.std.specs.String.{string_bytes}
use Rattle.std.specs.List.{flat_map}
use Rattle.rl_events.specs.Printed.{event_line}
use Rattle.rl_script.proofs.printed.push_events.Given as goal

abbrev pub invariant-loop-event : goal.invariant-loop-event
invariant-loop-event l = string_bytes l.out ≡ string_bytes l.fn.out ++ codes "events\n" ++ flat_map (λ e. event_line e ++ 10 ∷ []) (take l.event-index l.events)
