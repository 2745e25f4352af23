-- The rule of the replay, which holds between any two atomic steps. It speaks of all words and of
-- the views of all seats.
use Rattle.std.specs.Prelude.{◌≡◌, ◌≢◌, ℕ, ◌+◌, ◌*◌, ◌<◌, ◌≤◌, ◌⊎◌, List, length, slice_index, Contains, Some}
use mathlib.Core.Option.{some}
use lib.ListN.{get_elem?}
use Rattle.atomic_table.specs.Table.{State}
use Rattle.rl_base.specs.Words.{IsLocked}
use Rattle.rl_value.specs.Cells.{cells_of}
use Rattle.rl_shared_replay.specs.declared.view.Version.{Version}
use Rattle.rl_shared_replay.specs.declared.view.Seen.{Seen}
use Rattle.rl_shared_replay.specs.declared.view.Held.{Held}
use Rattle.rl_shared_replay.specs.declared.view.View.{View}
use Rattle.rl_shared_replay.specs.Layout.{RowOf, place, cell_place, stamp_at, Shows}
use Rattle.rl_shared_replay.specs.Views.{Holds, Stores}

-- the words and all views, as one step finds them
abbrev pub Shared : Type 0
Shared = State (Unit {0}) View

-- P holds of some view
abbrev pub OfSome : (P : View → Type 0) (views : List View) → Type 0
OfSome P views = (id : ℕ) × (v : View) × (get_elem? views id ≡ some v) × P v

-- what is to be replayed: how many records there are, the columns of each, the words as they
-- opened, and the versions of all writes of all parts
pub record Plan : Type 0 where
  pub records : ℕ
  pub columns : ℕ → ℕ
  pub opening : List ℕ
  pub versions : List Version

module _ (p : Plan) (words : List ℕ) where
  -- r has its opening row, under stamp 0
  abbrev pub IsOpening : (r stamp : ℕ) (row : RowOf) → Type 0
  IsOpening r stamp row = (stamp ≡ 0) × Shows (p.columns r) p.opening r row

  -- some view has made this version of r
  abbrev pub IsMade : (views : List View) (r stamp : ℕ) (row : RowOf) → Type 0
  IsMade views r stamp row =
      (x : Version) × OfSome (λ v. Contains v.made x) views × (x.rec ≡ r) × (x.stamp ≡ stamp)
      × (x.row ≡ row)

  -- what the rule says of one record
  pub record RecordFits (views : List View) (r : ℕ) : Type 0 where
    -- its lock bit is set exactly where a view holds it
    pub held : IsLocked (slice_index words (place r)) → OfSome (λ v. Holds v r) views
    pub locked : OfSome (λ v. Holds v r) views → IsLocked (slice_index words (place r))
    -- its stamp and row are 0 and the opening row, or those of a write in some view
    pub row : RowOf
    pub version : IsOpening r (stamp_at words r) row ⊎ IsMade views r (stamp_at words r) row
    -- the row stands in the words where no holder has begun to store
    pub shown : (OfSome (λ v. Stores v r) views → ⊥) → Shows (p.columns r) words r row

  -- what it says of a record that is held
  pub record HoldFits (h : Held) : Type 0 where
    pub inside : h.rec < p.records
    -- its stamp is as it was
    pub old : h.old ≡ stamp_at words h.rec
    -- presence and so many columns are all its cells
    pub few : length h.stored ≤ 1 + p.columns h.rec
    -- the cells that were stored stand in the words
    pub stand : (k : ℕ) → k < length h.stored
        → slice_index words (cell_place h.rec k) ≡ slice_index h.stored k
    -- and are those of a write of the plan, whose stamp is above the record's
    pub stored : 0 < length h.stored
        → (x : Version) × Contains p.versions x × (x.rec ≡ h.rec) × (stamp_at words h.rec < x.stamp)
        × ((k : ℕ) → k < length h.stored → slice_index h.stored k ≡ slice_index (cells_of (p.columns h.rec) x.row) k)

  -- what it says of one view
  pub record ViewFits (v : View) : Type 0 where
    -- what it has made is of the plan
    pub planned : (x : Version) → Contains v.made x → Contains p.versions x
    -- no stamp that it has seen on a record is above the record's; so neither is that of a write
    -- that it counts as settled, since one at least as high was seen there (Settled)
    pub seen : (y : Seen) → Contains v.seen y → y.stamp ≤ stamp_at words y.rec
    pub held : (h : Held) → v.held ≡ Some h → HoldFits h

-- the rule
pub record ReplayRule (p : Plan) (s : Shared) : Type 0 where
  -- there are the words of each record, of at most four columns
  pub wide : length s.words ≡ 1 + 6 * p.records
  pub narrow : (r : ℕ) → p.columns r ≤ 4
  pub records : (r : ℕ) → r < p.records → RecordFits p s.words s.views r
  pub fits : (id : ℕ) (v : View) → get_elem? s.views id ≡ some v → ViewFits p s.words v
  -- no two views hold one record
  pub apart : (id other : ℕ) (v w : View) → id ≢ other → get_elem? s.views id ≡ some v
      → get_elem? s.views other ≡ some w → (r : ℕ) → Holds v r → Holds w r → ⊥
