-- What `sim` does with the events of a script. No public contract cites it.
use Rattle.std.specs.Prelude.{◌≡◌, ℕ, ◌≤◌, List, All, sum_by, None}
use Rattle.rl_base.specs.declared.limit.TheConstants.{EVENTS}
use Rattle.rl_events.specs.Expanded.{IsNotRandom}
use Rattle.rl_events.specs.Fits.{EventFits, count_of}
use Rattle.rl_events.specs.declared.event.Event.{Event}
use Rattle.rl_nodes.specs.Events.{world_after}
use Rattle.rl_nodes.specs.Setups.{Setup}
use Rattle.rl_node.specs.SetupOf.{setup_of}
use Rattle.rl_script.specs.declared.script.Script.{Script}
use Rattle.rl_world.specs.Scripts as scripts
use Rattle.rl_world.specs.Worlds.{Taken}

-- events that a new world of a setup may be given, one after another
pub record CanBeGiven (setup : Setup) (events : List Event) : Type 0 where
  pub fit : All (EventFits setup.nodes setup.workers) events
  pub not_random : All IsNotRandom events
  pub counted : sum_by count_of events ≤ EVENTS

-- a world of a setup that took some events, and refused none
pub record HasTaken (setup : Setup) (events : List Event) (x : Taken) : Type 0 where
  pub its_setup : setup_of x.setup ≡ setup
  pub its_events : x.events ≡ events
  pub counted : x.counted ≡ sum_by count_of events
  pub failed : x.failed ≡ None

-- a world that has taken events which lead to the same as those of a script, and refused none
pub record StandsForRun (script : Script) (x : Taken) : Type 0 where
  pub setup : setup_of x.setup ≡ scripts.setup_of script
  pub same : world_after (setup_of x.setup) x.events ≡ world_after (scripts.setup_of script) script.events
  pub failed : x.failed ≡ None
