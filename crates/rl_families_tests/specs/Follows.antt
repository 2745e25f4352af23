-- A replica of the streams of a family.
use Rattle.std.specs.Prelude.{◌≡◌, ℕ, ◌≤◌, List, length, take}
use Rattle.rl_txn.specs.declared.batch.Batch.{Batch}
use Rattle.rl_families.specs.Streams.{log_at}
use Rattle.rl_replay.specs.Standing.{StandingReplica, BeginsWithPlayed}

-- of each stream it has played what the family's log begins with, in as many batches as are known
pub record Follows (known : ℕ) (r : StandingReplica) (family : List (List Batch)) : Type 0 where
  pub streams : length r.replaying.played ≡ length family
  pub begins : (s : ℕ) → 1 ≤ s → s ≤ length family
      → BeginsWithPlayed r s (take known (log_at family s))
