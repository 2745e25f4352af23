-- Amid the delivery of all pending messages of a run. No public contract cites it.
use Rattle.std.specs.Prelude.{ℕ}
use Rattle.rl_nodes.specs.Setups.{Setup}
use Rattle.rl_world.specs.Moments.{Moment}
use Rattle.rl_world.specs.Pending.{IsAmidAll}
use Rattle.rl_world.specs.Standing.{StandsRun}
use Rattle.rl_world.specs.declared.run.Run.{Run}

-- the messages up to a number were delivered that were pending at a first moment, and the run stands for the moment since
pub record HasDelivered (setup : Setup) (r : Run) (first : Moment setup) (after : ℕ) : Type 0 where
  pub now : Moment setup
  pub stands : StandsRun r now.world
  pub amid : IsAmidAll setup first.world.sent first.world now.world after
