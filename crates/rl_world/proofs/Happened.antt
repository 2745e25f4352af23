-- An event of a kind does what its call does.
use Rattle.std.proofs.Common.{◌≡◌, Result, sym, subst}
use Rattle.rl_events.specs.declared.event.Event.{Event}
use Rattle.rl_nodes.specs.Events.{after_event}
use Rattle.rl_node.specs.SetupOf.{setup_of}
use Rattle.rl_world.specs.Moments.{TriesAmid}
use Rattle.rl_world.specs.Standing.{Tries, TriesRun}
use Rattle.rl_world.specs.declared.run.Run.{Run}
use Rattle.rl_world.specs.declared.world_error.WorldError.{WorldError}

pub as_run : (old new : Run) (e x : Event) → e ≡ x → (result : Result (Unit {0}) WorldError)
    → TriesRun old new (after_event (setup_of old.setup) x) result → TriesAmid old new (after_event (setup_of old.setup) e) result
as_run old new e x is result h m st = subst (λ (y : Event). Tries new (after_event (setup_of old.setup) y m.world) result) (sym is) (h m.world st)
