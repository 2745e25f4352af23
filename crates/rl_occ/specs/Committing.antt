-- The two parts of a commit after the draw, by the view of the pass.
use Rattle.std.specs.Prelude.{◌≡◌, ℕ, ◌+◌, ◌<◌, List, [], map, length, Some, false}
use Rattle.rl_txn.specs.declared.write.Write as txn
use Rattle.rl_value.specs.Tables.{Table}
use Rattle.rl_store.specs.declared.view.Held.{Held}
use Rattle.rl_store.specs.declared.view.Refused.{Refused}
use Rattle.rl_store.specs.declared.view.View.{View}
use Rattle.rl_store.specs.Entries.{In, IsDecided, held_rec, read_rec}
use Rattle.rl_store.specs.Passes.{HasDrawn}
use Rattle.rl_store.specs.Views.{blank, settled}
use Rattle.rl_occ.specs.declared.sets.Lock.{Lock}
use Rattle.rl_occ.specs.declared.sets.Seen.{Seen}
use Rattle.rl_occ.specs.Fits.{rec_of}
use Rattle.rl_occ.specs.Locking.{held_of}
use Rattle.rl_occ.specs.Outcomes.{write_at}
use Rattle.rl_occ.specs.Reading.{AreOnce, seen_of}

-- the attempt has drawn, holds these locks, and has validated none of its reads yet; with no read and no lock it is
-- an item already
pub record IsToValidate (v : View) (words : List Seen) (locks : List Lock) : Type 0 where
  pub seen : map seen_of v.attempt.reads ≡ words
  pub once : AreOnce v.attempt.reads
  pub held : v.attempt.held ≡ map held_of locks
  pub none : v.attempt.validated ≡ []
  pub unclosed : v.attempt.closed ≡ []
  pub running : v.attempt.given_up ≡ false
  pub drawn : 0 < length words → HasDrawn v
  pub whole : settled v ≡ v

-- the view, with all reads validated
abbrev pub all_valid : (v : View) → View
all_valid v = record v { attempt = record v.attempt { validated = map read_rec v.attempt.reads } }

-- the attempt is decided under the stamp, holds the records of these writes, and has installed none yet; with no
-- write it is an item already
pub record IsToInstall (tables : List Table) (v : View) (stamp : ℕ) (writes : List txn.Write) : Type 0 where
  pub held : map held_rec v.attempt.held ≡ map (rec_of tables) writes
  pub bare : (h : Held) → In h v.attempt.held → h.stored ≡ []
  pub none : v.attempt.closed ≡ []
  pub drawn : 0 < length writes → v.attempt.drawn ≡ Some stamp
  pub decided : 0 < length writes → IsDecided v.attempt
  pub whole : settled v ≡ v

-- the view, with all writes closed
abbrev pub all_closed : (tables : List Table) (v : View) (writes : List txn.Write) → View
all_closed tables v writes = record v { attempt = record v.attempt { held = []; closed = map (write_at tables) writes } }

-- one refusal more, after which the attempt is over
abbrev pub with_refusal : (v : View) (why : Refused) → View
with_refusal v why = record v { refusals = v.refusals + 1; last = Some why; attempt = blank }
