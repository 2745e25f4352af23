-- What a whole pass at rest learns at the end.
use Rattle.std.specs.Prelude.{◌≡◌, ℕ, ◌+◌, ◌<◌, ◌≤◌, List, None, slice_index, slice_index_or}
use Rattle.rl_base.specs.Words.{stamp_in}
use mathlib.Core.Option.{some}
use lib.ListN.{get_elem?}
use Rattle.rl_store.specs.declared.view.View.{View}
use Rattle.rl_store.specs.Entries.{In, Entry, RowOf, entries}
use Rattle.rl_store.specs.Layout.{Opening, stamp_at, Closes, Version}
use Rattle.rl_store.specs.Serial.{SerialStore}

-- the pass has all tries and draws that the store was made with
abbrev pub IsWhole : (b : Opening) (v : View) → Type 0
IsWhole b v = v.draws + v.tries ≡ b.total

-- a store that was closed: its epoch, and the word and the row of each record
pub record ClosedOf : Type 0 where
  pub epoch : ℕ
  pub words : List ℕ
  pub rows : List RowOf

-- the stamp in the word and the row are those of the newest of the entries that closed r, or the opening ones
pub record IsNewest (b : Opening) (entry : Entry → Type 0) (r word : ℕ) (row : RowOf) : Type 0 where
  pub version : Version b entry r (stamp_in word) row
  pub newest : (e : Entry) (row : RowOf) → entry e → Closes e r row → e.stamp ≤ stamp_in word

-- the stamps in the words, and the rows, at the end: those after the items of a pass
pub record EndsAfter (b : Opening) (v : View) (words : List ℕ) (rows : List RowOf) : Type 0 where
  -- each record has its newest version
  pub records : (r : ℕ) → r < b.records → IsNewest b (λ e. In e (entries v)) r (slice_index words r) (slice_index_or rows r None)
  -- the items are serial
  pub serial : SerialStore b (λ e. In e (entries v))
  -- no two have one stamp, and all are of the store's epoch
  pub differ : (e f : Entry) (i j : ℕ) → get_elem? (entries v) i ≡ some e → get_elem? (entries v) j ≡ some f → e.stamp ≡ f.stamp → i ≡ j
  pub from : (e : Entry) → In e (entries v) → b.base + 2 ≤ e.stamp
  -- opening stamps are of earlier epochs
  pub opening : (r : ℕ) → r < b.records → stamp_at b.words r < b.base
