-- Amid something that is done for each of some numbers. No public contract cites it.
use Rattle.std.specs.Prelude.{◌≡◌, ℕ, List}
use Rattle.rl_nodes.specs.Events.{for_each}
use Rattle.rl_nodes.specs.World.{World, Ran}
use Rattle.rl_world.specs.Standing.{StandsRun}
use Rattle.rl_world.specs.declared.run.Run.{Run}

-- from here on, what is left leads to what all of it led to from a first world
pub record IsAmidEach (r : Run) (does : ℕ → World → Ran) (all : List ℕ) (first : World) (left : List ℕ) : Type 0 where
  pub now : World
  pub stands : StandsRun r now
  pub same : for_each all does first ≡ for_each left does now
