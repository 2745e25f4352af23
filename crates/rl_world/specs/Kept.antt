-- What a world keeps of its run. No public contract cites it.
use Rattle.std.specs.Prelude.{◌≡◌, ◌≤◌, List, All, sum_by, None, Ok}
use Rattle.rl_events.specs.Fits.{EventFits, count_of}
use Rattle.rl_events.specs.declared.event.Event.{Event}
use Rattle.rl_nodes.specs.Events.{world_after}
use Rattle.rl_nodes.specs.World.{World}
use Rattle.rl_node.specs.SetupOf.{setup_of}
use Rattle.rl_world.specs.Standing.{IsSafe, StandsRun}
use Rattle.rl_world.specs.declared.run.Run.{Run}
use Rattle.rl_world.specs.declared.world.World.TheInside.{Inside}

-- events fit the setup of a run
abbrev pub EventsFitRun : Run → List Event → Type 0
EventsFitRun r events = All (EventFits (setup_of r.setup).nodes (setup_of r.setup).workers) events

-- a run stands for the world that some events make
pub record IsAfter (r : Run) (events : List Event) : Type 0 where
  pub world : World
  pub is : world_after (setup_of r.setup) events ≡ Ok world
  pub stands : StandsRun r world

-- the run is safe, also after a refusal; its events fit and were counted; and before any refusal it is the run after them
pub record IsKept (w : Inside) : Type 0 where
  pub safe : IsSafe w.run
  pub fit : EventsFitRun w.run w.events
  pub counted : sum_by count_of w.events ≤ w.counted
  pub after : w.failed ≡ None → IsAfter w.run w.events
