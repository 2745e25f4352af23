-- Where in a log a replica stands.
use Rattle.std.specs.Prelude.{◌≡◌, ℕ, ◌+◌, ◌*◌, ◌^◌, ◌<◌, ◌≤◌, List, length, take, slice_get, Some}
use Rattle.rl_txn.specs.declared.batch.Batch.{Batch}
use Rattle.rl_replay.specs.Entries.{entries, entries_of}
use Rattle.rl_replay.specs.declared.cursor.Cursor.{Cursor}

-- the front of a log
abbrev pub start : Cursor
start = record { batch = 0; index = 0 }

-- behind the entry at a cursor
abbrev pub next_cursor : Cursor → Cursor
next_cursor c = record { batch = c.batch; index = c.index + 1 }

-- so many entries can stand before a cursor
abbrev pub FitsCursor : (played : ℕ) → Cursor → Type 0
FitsCursor played c = played ≤ c.batch * 2 ^ 64 + c.index

-- a cursor stands behind so many entries of a log
pub record StandsBehind (n : ℕ) (log : List Batch) (c : Cursor) : Type 0 where
  pub within : c.batch ≤ length log
  pub counts : length (entries (take c.batch log)) + c.index ≡ n

-- the entry of a number stands at a cursor in this batch
pub record IsEntryAt (log : List Batch) (n : ℕ) (batch : Batch) (c : Cursor) : Type 0 where
  pub has : slice_get log c.batch ≡ Some batch
  pub index : c.index < length (entries_of batch)
  pub counts : length (entries (take c.batch log)) + c.index ≡ n
