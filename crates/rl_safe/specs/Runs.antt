-- A run of all nodes, and what some run does.
use Rattle.std.specs.Prelude.{◌≡◌, ◌<◌, List, All, Contains, Ok}
use Rattle.rl_events.specs.Fits.{EventFits}
use Rattle.rl_events.specs.declared.event.Event.{Event}
use Rattle.rl_txn.specs.declared.item.Item.{Item}
use Rattle.rl_nodes.specs.Events.{world_after}
use Rattle.rl_nodes.specs.Setups.{Setup, SetupFits}
use Rattle.rl_nodes.specs.World.{World}

-- a run: a setup that fits, events that fit it, and the world that they make of new nodes, within all limits
pub record Run : Type 0 where
  pub setup : Setup
  pub events : List Event
  pub world : World
  pub setup_fits : SetupFits setup
  pub events_fit : All (EventFits setup.nodes setup.workers) events
  pub ends : world_after setup events ≡ Ok world

-- a run that releases items of two epochs
pub record SomeRunReleases : Type 0 where
  pub run : Run
  pub earlier : Item
  pub later : Item
  pub rises : earlier.stamp.epoch < later.stamp.epoch
  pub earlier_released : Contains run.world.released earlier
  pub later_released : Contains run.world.released later
