-- Where a replica stands in the logs of its streams.
use Rattle.std.specs.Prelude.{ℕ, ◌-◌, ◌<◌, List, length, slice_index, slice_index_or}
use Rattle.rl_txn.specs.declared.batch.Batch.{Batch}
use Rattle.rl_replay.specs.Cursors.{start, StandsBehind}
use Rattle.rl_replay.specs.Replay.{Replaying}
use Rattle.rl_replay.specs.declared.cursor.Cursor.{Cursor}

-- a replica, and for each stream the cursor behind what it has played
pub record StandingReplica : Type 0 where
  pub replaying : Replaying
  pub cursors : List Cursor

-- a log begins with what a replica has played of a stream: the replica stands behind it
pub record BeginsWithPlayed (r : StandingReplica) (s : ℕ) (known : List Batch) : Type 0 where
  pub has : s - 1 < length r.cursors
  pub stands : StandsBehind (slice_index r.replaying.played (s - 1)) known
      (slice_index_or r.cursors (s - 1) start)
