-- How a replica goes on in a stream's log. No public contract cites it.
use Rattle.std.specs.Prelude.{ℕ, ◌+◌, ◌-◌, List, slice_index, slice_set, Option}
use Rattle.rl_replay.specs.Entries.{Entry}
use Rattle.rl_replay.specs.Replay.{after_answer}
use Rattle.rl_replay.specs.Standing.{StandingReplica}
use Rattle.rl_replay.specs.declared.cursor.Cursor.{Cursor}
use Rattle.rl_replay.specs.declared.played.Played.{Played}
use Rattle.rl_replay.specs.declared.played.Played.TheVariants.{Applied, Passed}

-- the replica behind one more entry of a stream, at a cursor
abbrev pub gone_on : StandingReplica → (s : ℕ) → Cursor → StandingReplica
gone_on r s c = record {
  replaying = record r.replaying {
    played = slice_set r.replaying.played (s - 1) (slice_index r.replaying.played (s - 1) + 1);
  };
  cursors = slice_set r.cursors (s - 1) c;
}

-- the cursors after an answer: that of the stream goes behind the entry
abbrev pub cursors_after : Played → List Cursor → (s : ℕ) → Cursor → List Cursor
cursors_after (Applied t) cursors s c = slice_set cursors (s - 1) c
cursors_after (Passed t) cursors s c = slice_set cursors (s - 1) c
cursors_after _ cursors s c = cursors

-- the replica after an answer, where this cursor is behind the entry
abbrev pub standing_after : StandingReplica → (s : ℕ) → Option Entry → Played → Cursor → StandingReplica
standing_after r s next p c = record {
  replaying = after_answer r.replaying s next p;
  cursors = cursors_after p r.cursors s c;
}
