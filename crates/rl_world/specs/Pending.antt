-- Which messages of a world are pending, by their indexes. No public contract cites it.
use Rattle.std.specs.Prelude.{◌≡◌, ℕ, ◌≤◌, ◌<◌, Bool, false, List, length, drop, slice_get, suc}
use Rattle.std.specs.Option.{option_map_or}
use Rattle.rl_nodes.specs.Events.{for_each, delivers}
use Rattle.rl_nodes.specs.Setups.{Setup}
use Rattle.rl_nodes.specs.World.{World, Sent, is_pending, pending_from}

-- whether the message of an index is pending
abbrev pub waits : List Sent → (i : ℕ) → Bool
waits sent i = option_map_or is_pending (slice_get sent i) false

-- the messages behind some, of those that were sent before, are as they were
pub record AreAsBefore (after : ℕ) (before now : List Sent) : Type 0 where
  pub within : length before ≤ length now
  pub same : (i : ℕ) → after ≤ i → i < length before → slice_get now i ≡ slice_get before i

-- amid the delivery of all that was pending in a first world, where those up to a number were delivered: the rest of them from here on
-- leads to the same
pub record IsAmidAll (setup : Setup) (before : List Sent) (first now : World) (after : ℕ) : Type 0 where
  pub as_before : AreAsBefore after before now.sent
  pub rest : for_each (pending_from 1 before) (delivers setup) first
      ≡ for_each (pending_from (suc after) (drop after before)) (delivers setup) now
