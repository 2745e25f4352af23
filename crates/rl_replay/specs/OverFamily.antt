-- A replica over a family: the known prefixes of its node's logs, one log for each stream.
use Rattle.std.specs.Prelude.{◌≡◌, ℕ, ◌-◌, ◌<◌, ◌≤◌, List, false, length, slice_index, Contains, Some}
use Rattle.rl_value.specs.Rows.{Rows}
use Rattle.rl_txn.specs.declared.item.Item.{Item}
use Rattle.rl_txn.specs.declared.batch.Batch.{Batch}
use Rattle.rl_txn.specs.Serial.{rows_after}
use Rattle.rl_families.specs.Order.{in_order}
use Rattle.rl_families.specs.Families.{history}
use Rattle.rl_families.specs.Streams.{log_at, IsStreamOf}
use Rattle.rl_replay.specs.Entries.{item_entry, entries, entry_at}
use Rattle.rl_replay.specs.Replay.{Replaying, AreDistinct}

-- an item was played: it is an entry of some stream before the one that is next there
pub record WasPlayed (family : List (List Batch)) (r : Replaying) (x : Item) : Type 0 where
  pub stream : ℕ
  pub is_stream : IsStreamOf family stream
  pub number : ℕ
  pub before : number < slice_index r.played (stream - 1)
  pub entry : entry_at (log_at family stream) number ≡ Some (item_entry x)

-- a replica that began with some rows has played entries of these logs
pub record IsReplicaOf (opening : Rows) (family : List (List Batch)) (r : Replaying) : Type 0 where
  -- it counts the entries that it has played of each log, and the log has so many
  pub streams : length r.played ≡ length family
  pub within : (s : ℕ) → IsStreamOf family s
      → slice_index r.played (s - 1) ≤ length (entries (log_at family s))
  -- what it has applied it has played, and it counts in the family
  pub played : (x : Item) → Contains r.applied x → WasPlayed family r x
  pub counted : (x : Item) → Contains r.applied x → Contains (history family) x
  -- no two items that it has applied have one stamp
  pub distinct : AreDistinct r.applied
  -- while it had memory, its rows are what these items leave of the opening rows
  pub rows : r.failed ≡ false → r.rows ≡ rows_after opening (in_order r.applied)
