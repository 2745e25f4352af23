-- A replica that plays a stream of a family entry by entry. No public contract cites it.
use Rattle.std.specs.Prelude.{◌≡◌, ℕ, ◌+◌, ◌-◌, ◌<◌, ◌≤◌, List, length, slice_index, All, Bool, true, false}
use Rattle.rl_families.specs.Streams.{log_at}
use Rattle.rl_families.specs.Logs.{items_along}
use Rattle.rl_replay.specs.Entries.{entries}
use Rattle.rl_replay.specs.Laws.{after_play}
use Rattle.rl_replay.specs.Replay.{Replaying}
use Rattle.rl_replay.specs.Standing.{StandingReplica, BeginsWithPlayed}
use Rattle.rl_replay.specs.declared.played.Played.{Played}
use Rattle.rl_replay.specs.declared.played.Played.TheVariants.{Applied, Passed}
use Rattle.rl_txn.specs.Fits.{ItemWritesFit}
use Rattle.rl_txn.specs.declared.batch.Batch.{Batch}
use Rattle.rl_value.specs.Fits.{RowsFit}
use Rattle.rl_value.specs.Tables.{Table}
use Rattle.rl_nodes.specs.Views.{next_bound, played}

-- the next entry is played, if it can be
abbrev pub next_played : (family : List (List Batch)) → Replaying → (s : ℕ) → Replaying
next_played family r s = after_play family r s (next_bound family r s)

-- whether an answer plays the entry
abbrev pub is_played : Played → Bool
is_played (Applied stamp) = true
is_played (Passed stamp) = true
is_played other = false

-- how many entries of stream s are played
abbrev pub count_of : Replaying → (s : ℕ) → ℕ
count_of r s = slice_index r.played (s - 1)

-- what stays true of a replica of a family as it plays stream s: it stands in each log, and its rows fit
pub record StaysOf (family : List (List Batch)) (s : ℕ) (old new : StandingReplica) : Type 0 where
  pub streams : length new.replaying.played ≡ length old.replaying.played
  pub begins : (t : ℕ) → 1 ≤ t → BeginsWithPlayed old t (log_at family t) → BeginsWithPlayed new t (log_at family t)
  pub rows : (tables : List Table) → All (ItemWritesFit tables) (items_along (log_at family s)) → RowsFit tables old.replaying.rows
      → RowsFit tables new.replaying.rows

-- it has played the next entry of stream s
pub record HasMoved (family : List (List Batch)) (s : ℕ) (old new : StandingReplica) : Type 0 where
  pub stays : StaysOf family s old new
  pub replaying : new.replaying ≡ next_played family old.replaying s
  pub count : count_of new.replaying s ≡ count_of old.replaying s + 1
  pub there : count_of old.replaying s < length (entries (log_at family s))

-- or it can't play it
pub record HasStopped (family : List (List Batch)) (s : ℕ) (old new : StandingReplica) : Type 0 where
  pub stays : StaysOf family s old new
  pub replaying : new.replaying ≡ old.replaying
  pub stopped : next_played family old.replaying s ≡ old.replaying

-- one of both
abbrev pub HasPlayedNext : (family : List (List Batch)) → (s : ℕ) → (old new : StandingReplica) → (moved : Bool) → Type 0
HasPlayedNext family s old new true = HasMoved family s old new
HasPlayedNext family s old new false = HasStopped family s old new

-- it has played so many entries
pub record HasPlayedSome (family : List (List Batch)) (s : ℕ) (old new : StandingReplica) (n : ℕ) : Type 0 where
  pub stays : StaysOf family s old new
  pub replaying : new.replaying ≡ played family old.replaying s n
  pub count : count_of new.replaying s ≡ count_of old.replaying s + n
  pub within : n ≤ length (entries (log_at family s))
