-- The moments of a run. No public contract cites it.
use Rattle.std.specs.Prelude.{◌≡◌, ℕ, ◌+◌, ◌≤◌, List, All, sum_by, Ok, Result}
use Rattle.rl_base.specs.declared.limit.TheConstants.{EVENTS}
use Rattle.rl_events.specs.Fits.{EventFits, count_of}
use Rattle.rl_events.specs.declared.event.Event.{Event}
use Rattle.rl_nodes.specs.Events.{world_after}
use Rattle.rl_nodes.specs.Setups.{Setup}
use Rattle.rl_nodes.specs.World.{World, Ran}
use Rattle.rl_node.specs.SetupOf.{setup_of}
use Rattle.rl_world.specs.Standing.{StandsRun, Tries}
use Rattle.rl_world.specs.declared.run.Run.{Run}
use Rattle.rl_world.specs.declared.world_error.WorldError.{WorldError}

-- events that fit, and the world to which they lead, within all limits
pub record Moment (setup : Setup) : Type 0 where
  pub events : List Event
  pub world : World
  pub fit : All (EventFits setup.nodes setup.workers) events
  pub ends : world_after setup events ≡ Ok world

-- a run stands for the world of some moment
pub record IsAmid (r : Run) : Type 0 where
  pub moment : Moment (setup_of r.setup)
  pub stands : StandsRun r moment.world

-- of one that so many more events may follow
pub record HasRoom (r : Run) (more : ℕ) : Type 0 where
  pub moment : Moment (setup_of r.setup)
  pub stands : StandsRun r moment.world
  pub room : sum_by count_of moment.events + more ≤ EVENTS

-- whatever moment's world it stood for, it stands for what was due, or refuses as was due
abbrev pub TriesAmid : (old new : Run) → (due : World → Ran) → Result (Unit {0}) WorldError → Type 0
TriesAmid old new due result =
    (m : Moment (setup_of old.setup)) → StandsRun old m.world → Tries new (due m.world) result
