-- What a transaction reads, and what it wants next, given the rows that it has read so far.
use Rattle.std.specs.Prelude.{◌≡◌, ℕ, ◌+◌, ◌<◌, ◌≤◌, Bool, true, false, not, ◌&&◌, List, [], ◌∷◌, ◌++◌, length, map, filter, take, drop, slice_get, sum_by, nat_lt, nat_le, is_some, Option, Some, None, IfSome, if◌then◌else◌, vec_capacity, zero, suc}
use Rattle.std.specs.Option.{option_map_or}
use Rattle.std.specs.List.{range_with_len, find, list_any}
use Rattle.std.specs.FinMap as finite
use Rattle.rl_value.specs.Rows.{Rows}
use Rattle.rl_value.specs.Tables.{Table, size_of}
use Rattle.rl_txn.specs.Run.{Overlay, Progress, value_of, op_done, passes, beginning, ops_done, run}
use Rattle.rl_txn.specs.Serial.{put_or_remove}
use Rattle.rl_txn.specs.declared.op.Op.{Op}
use Rattle.rl_txn.specs.declared.op.Op.TheVariants.{Get, Has, Scan}
use Rattle.rl_txn.specs.declared.workspace.Workspace.{Workspace}
use Rattle.rl_txn.specs.declared.eval.Eval.{Eval}
use Rattle.rl_txn.specs.declared.eval.Wants.{Wants}
use Rattle.rl_txn.specs.declared.eval.Wants.TheVariants.{Read, Ended}

-- how many records an op reads at most
abbrev pub reads_at_most : Op → ℕ
reads_at_most (Get t k c d) = 1
reads_at_most (Has t k d) = 1
reads_at_most (Scan t k n c d) = n
reads_at_most op = 0

-- n keys of a table, in key order
abbrev pub places : ℕ → ℕ → ℕ → List (ℕ × ℕ)
places t k n = map {B = ℕ × ℕ} (λ key. (t, key)) (range_with_len k n)

-- the places that an op reads: each is a key of its table, or the op reads none
abbrev pub places_read : List Table → Op → Progress → List (ℕ × ℕ)
places_read tables (Get t k c d) p = if nat_lt (value_of p k) (size_of tables t) then places t (value_of p k) 1 else []
places_read tables (Has t k d) p = if nat_lt (value_of p k) (size_of tables t) then places t (value_of p k) 1 else []
places_read tables (Scan t k n c d) p = if nat_le (value_of p k + n) (size_of tables t) then places t (value_of p k) n else []
places_read tables op p = []

-- nothing is known of a place
abbrev pub is_new : Overlay → ℕ × ℕ → Bool
is_new rows place = not (is_some (finite.get rows place))

-- a place was neither read nor written
abbrev pub unknown : Overlay → Overlay → ℕ × ℕ → Bool
unknown read written place = is_new read place && is_new written place

-- the places that the ops read and have not written before, in order (Silo's read set); the first
-- few ops are skipped
unfoldable pub read_by : List Table → Rows → (skipped : ℕ) → List Op → Progress → List (ℕ × ℕ)
read_by tables rows skipped [] p = []
read_by tables rows zero (op ∷ ops) p =
    filter (is_new p.written) (places_read tables op p) ++ option_map_or (λ next. read_by tables rows (passes op p) ops next) (op_done tables rows op p) []
read_by tables rows (suc skipped) (op ∷ ops) p = read_by tables rows skipped ops p

-- the rows that are present among some entries
abbrev pub rows_from : List ((ℕ × ℕ) × Option (List ℕ)) → Rows
rows_from [] = finite.empty
rows_from (e ∷ es) = put_or_remove (rows_from es) e.0 e.1

-- the rows that were read, and no others
abbrev pub rows_of : Overlay → Rows
rows_of read = rows_from (finite.entries read)

-- some rows have what was read
abbrev pub HasRows : Overlay → Rows → Type 0
HasRows read rows = (place : ℕ × ℕ) → IfSome (finite.get read place) (λ row. finite.get rows place ≡ row)

-- how far a workspace has come
abbrev pub progress_of : Workspace → Progress
progress_of w = record { regs = w.regs; outs = w.outs.items; written = w.written.0 }

-- the rows that an evaluation was given
abbrev pub rows_given : Eval → Overlay
rows_given e = e.work.read.0

-- how many more rows an evaluation has room for
abbrev pub reads_room : Eval → ℕ
reads_room e = e.work.read.1

-- a record that is wanted is that of a key of a table
abbrev pub WantsFit : List Table → Wants → Type 0
WantsFit tables (Read t k) = (t < length tables) × (k < size_of tables t)
WantsFit tables (Ended end) = Unit {0}

-- what a transaction wants next, given the rows that it has read: of the records that it reads on
-- them, the first that it has not read yet; else its end
abbrev pub wants : List Table → List Op → Overlay → Wants
wants tables txn read = option_map_or (λ q. Read q.0 q.1) (find (is_new read) (read_by tables (rows_of read) 0 txn beginning)) (Ended (run tables txn (rows_of read)).0.end)

-- an evaluation has done the ops before one, on any rows that have those given: all that they read
-- was given
pub record IsOnWay (tables : List Table) (txn : List Op) (rows : Rows) (e : Eval) : Type 0 where
  pub before : List (ℕ × ℕ)
  pub reads : read_by tables rows 0 txn beginning ≡ before ++ read_by tables rows 0 (drop e.done txn) (progress_of e.work)
  pub given : list_any (is_new e.work.read.0) before ≡ false
  pub run : ops_done tables rows (e.done + 1) 0 (drop e.done txn) (progress_of e.work) ≡ ops_done tables rows 1 0 txn beginning

-- the first of the keys that the op at hand reads are known
abbrev pub AreKnown : List Table → List Op → Eval → Type 0
AreKnown tables [] e = Unit {0}
AreKnown tables (op ∷ ops) e =
    (e.scanned ≤ reads_at_most op) × (list_any (unknown e.work.read.0 e.work.written.0) (take e.scanned (places_read tables op (progress_of e.work))) ≡ false)

-- a place is the next that the op at hand reads
abbrev pub IsNext : List Table → List Op → Eval → ℕ × ℕ → Type 0
IsNext tables [] e q = ⊥
IsNext tables (op ∷ ops) e q = slice_get (places_read tables op (progress_of e.work)) e.scanned ≡ Some q

-- what was answered last is so
abbrev pub IsAsked : List Table → List Op → Eval → Option Wants → Type 0
IsAsked tables txn e None = Unit {0}
IsAsked tables txn e (Some (Read t k)) = (unknown e.work.read.0 e.work.written.0 (t, k) ≡ true) × IsNext tables (drop e.done txn) e (t, k)
IsAsked tables txn e (Some (Ended end)) = (rows : Rows) → HasRows e.work.read.0 rows → ops_done tables rows 1 0 txn beginning ≡ (progress_of e.work, end)

-- what is still to be read, put out and written fits the room that was taken
pub record HasRoom (txn : List Op) (e : Eval) : Type 0 where
  pub done : e.done ≤ length txn
  pub outs : length e.work.outs.items ≤ e.done
  pub outs_room : length txn ≤ vec_capacity e.work.outs
  pub writes : length (finite.entries e.work.written.0) ≤ e.done
  pub writes_room : length txn ≤ e.done + e.work.written.1
  pub empty : e.writes.items ≡ []
  pub finish : length txn ≤ vec_capacity e.writes
  pub reads : sum_by reads_at_most txn ≤ sum_by reads_at_most (take e.done txn) + e.scanned + e.work.read.1

-- an evaluation of a transaction
pub record IsEval (tables : List Table) (txn : List Op) (e : Eval) : Type 0 where
  pub way : (rows : Rows) → HasRows e.work.read.0 rows → IsOnWay tables txn rows e
  pub known : AreKnown tables (drop e.done txn) e
  pub asked : IsAsked tables txn e e.wants
  pub room : HasRoom txn e

-- the last answer was a record that is wanted
abbrev pub IsRead : Option Wants → Type 0
IsRead (Some (Read t k)) = Unit {0}
IsRead asked = ⊥

-- the last answer was the end
abbrev pub IsEnd : Option Wants → Type 0
IsEnd (Some (Ended end)) = Unit {0}
IsEnd asked = ⊥

-- the place that was asked for last
abbrev pub place_of_wants : Option Wants → ℕ × ℕ
place_of_wants (Some (Read t k)) = (t, k)
place_of_wants asked = (0, 0)

-- the place whose row an evaluation waits for
abbrev pub awaited : Eval → ℕ × ℕ
awaited e = place_of_wants e.wants

-- it waits for a row, for which there is room
pub record Awaits (e : Eval) : Type 0 where
  pub asked : IsRead e.wants
  pub fresh : is_new (rows_given e) (awaited e) ≡ true
  pub room : 0 < e.work.read.1
  pub few : e.scanned < 256

-- it has ended, and there is room for its writes
pub record HasEnded (e : Eval) : Type 0 where
  pub asked : IsEnd e.wants
  pub empty : e.writes.items ≡ []
  pub room : length (finite.entries e.work.written.0) ≤ vec_capacity e.writes

-- it stands as it was answered
abbrev pub StandsAt : Eval → Wants → Type 0
StandsAt e (Read t k) = Awaits e × (awaited e ≡ (t, k))
StandsAt e (Ended end) = HasEnded e
