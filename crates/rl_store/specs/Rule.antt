-- The rule of the store, which holds between any two atomic steps. It speaks of all words and of the views of all
-- passes, in nine parts: locks, versions, stored cells, stamps seen, open reads, rows read, validation, stamps
-- drawn, and the counter.
use Rattle.std.specs.Prelude.{◌≡◌, ◌≢◌, ℕ, ◌+◌, ◌*◌, ◌^◌, ◌<◌, ◌≤◌, ◌⊎◌, true, [], length, slice_index, sum_by, Some, None}
use mathlib.Core.Option.{some}
use lib.ListN.{get_elem?}
use Rattle.atomic_table.specs.Table.{State}
use Rattle.rl_base.specs.Words.{IsLocked}
use Rattle.rl_store.specs.declared.view.Reading.{Reading}
use Rattle.rl_store.specs.declared.view.Read.{Read}
use Rattle.rl_store.specs.declared.view.Held.{Held}
use Rattle.rl_store.specs.declared.view.Write.{Write}
use Rattle.rl_store.specs.declared.view.View.{View}
use Rattle.rl_store.specs.Entries.{In, Entry, RowOf, entries, Decided, Stands, Holds, IsDecided, Locks, Installs}
use Rattle.rl_store.specs.Layout.{Opening, place, cell_place, stamp_at, Closes, Shows, Version}

-- the words and all views, as one step finds them
abbrev pub Shared : Type 0
Shared = State (Unit {0}) View

-- v is the view of the pass id
abbrev pub IsView : (s : Shared) (id : ℕ) (v : View) → Type 0
IsView s id v = get_elem? s.views id ≡ some v

module _ (b : Opening) (s : Shared) where
  -- The layout: there are the words of each record, of at most four columns.
  pub record Layout : Type 0 where
    pub words : length s.words ≡ 1 + 6 * b.records
    pub columns : (r : ℕ) → b.columns r ≤ 4

  -- 1. The lock bit of a record is set exactly where a view holds it, and no two views do.
  pub record LockBits : Type 0 where
    pub held : (r : ℕ) → r < b.records → IsLocked (slice_index s.words (place r)) → Locks s.views r
    pub locked : (r : ℕ) → r < b.records → Locks s.views r → IsLocked (slice_index s.words (place r))
    pub one : (id other : ℕ) (v w : View) → id ≢ other → IsView s id v → IsView s other w
        → (r : ℕ) → Holds v r → Holds w r → ⊥
    -- a view holds a record once
    pub once : (id : ℕ) (v : View) → IsView s id v → (h g : Held) (i j : ℕ) → get_elem? v.attempt.held i ≡ some h
        → get_elem? v.attempt.held j ≡ some g → h.rec ≡ g.rec → i ≡ j
    pub records : (id : ℕ) (v : View) → IsView s id v → (h : Held) → In h v.attempt.held → h.rec < b.records

  -- the version of one record: its stamp is that of the newest entry that closed it, or the opening one, and where
  -- no decided attempt holds it the words show its row
  pub record VersionAt (r : ℕ) : Type 0 where
    pub row : RowOf
    pub version : Version b (Stands s.views) r (stamp_at s.words r) row
    pub shown : (Installs s.views r → ⊥) → Shows b s.words r row
    pub newest : (e : Entry) (row : RowOf) → Stands s.views e → Decided e → Closes e r row → e.stamp ≤ stamp_at s.words r

  -- 2. Each record has its newest version.
  abbrev pub Versions : Type 0
  Versions = (r : ℕ) → r < b.records → VersionAt r

  -- 3. The cells that a holder has stored stand in the words. One that isn't decided has stored no cell and closed
  -- no write.
  pub record StoredCells : Type 0 where
    pub few : (id : ℕ) (v : View) → IsView s id v → (h : Held) → In h v.attempt.held → length h.stored ≤ 1 + b.columns h.rec
    pub stand : (id : ℕ) (v : View) → IsView s id v → (h : Held) → In h v.attempt.held
        → (k : ℕ) → k < length h.stored → slice_index s.words (cell_place h.rec k) ≡ slice_index h.stored k
    pub stored : (id : ℕ) (v : View) → IsView s id v → (h : Held) → In h v.attempt.held → 0 < length h.stored → IsDecided v.attempt
    pub closed : (id : ℕ) (v : View) → IsView s id v → (x : Write) → In x v.attempt.closed → IsDecided v.attempt

  -- 4. No stamp that a view saw on a record is above the record's, which is below the counter's. A holder's old word
  -- is the record's without the lock bit, and its drawn stamp is above the record's.
  pub record StampsSeen : Type 0 where
    pub opened : (id : ℕ) (v : View) → IsView s id v → (x : Reading) → v.attempt.reading ≡ Some x
        → (x.rec < b.records) × (x.seen ≤ stamp_at s.words x.rec)
    pub counted : (id : ℕ) (v : View) → IsView s id v → (x : Read) → In x v.attempt.reads
        → (x.rec < b.records) × (x.stamp ≤ stamp_at s.words x.rec)
    pub below : (r : ℕ) → r < b.records → stamp_at s.words r < b.base + slice_index s.words 0
    pub old : (id : ℕ) (v : View) → IsView s id v → (h : Held) → In h v.attempt.held → h.old ≡ 2 * stamp_at s.words h.rec
    pub drawn : (id : ℕ) (v : View) → IsView s id v → (h : Held) → In h v.attempt.held
        → (stamp : ℕ) → v.attempt.drawn ≡ Some stamp → stamp_at s.words h.rec < stamp

  -- 5. The cells of an open read stand in the words, as long as the record's stamp is the one seen and no decided
  -- attempt holds it.
  pub record OpenReads : Type 0 where
    pub few : (id : ℕ) (v : View) → IsView s id v → (x : Reading) → v.attempt.reading ≡ Some x
        → length x.cells ≤ 1 + b.columns x.rec
    pub stand : (id : ℕ) (v : View) → IsView s id v → (x : Reading) → v.attempt.reading ≡ Some x
        → x.seen ≡ stamp_at s.words x.rec → (Installs s.views x.rec → ⊥)
        → (k : ℕ) → k < length x.cells → slice_index x.cells k ≡ slice_index s.words (cell_place x.rec k)

  -- 6. The row of a read that counts is the one with which an entry of its stamp closed the record, or the opening
  -- row. An attempt reads a record once.
  pub record RowsRead : Type 0 where
    pub of_attempts : (id : ℕ) (v : View) → IsView s id v → (x : Read) → In x v.attempt.reads
        → Version b (Stands s.views) x.rec x.stamp x.row
    pub of_entries : (e : Entry) → Stands s.views e → (x : Read) → In x e.reads → Version b (Stands s.views) x.rec x.stamp x.row
    pub once : (id : ℕ) (v : View) → IsView s id v → (x y : Read) → In x v.attempt.reads → In y v.attempt.reads
        → x.rec ≡ y.rec → x ≡ y

  -- 7. An attempt that hasn't drawn has validated nothing. The reads of an entry have stamps below its own. For a
  -- validated one, every other entry that isn't given up, and holds or has closed the record, has a stamp that is
  -- no higher than the read's, or above the entry's.
  pub record Validation : Type 0 where
    pub undrawn : (id : ℕ) (v : View) → IsView s id v → v.attempt.drawn ≡ None → v.attempt.validated ≡ []
    pub older : (e : Entry) → Stands s.views e → (x : Read) → In x e.reads → x.stamp < e.stamp
    pub validated : (e : Entry) → Stands s.views e → (x : Read) → In x e.reads → In x.rec e.validated
        → (f : Entry) → Stands s.views f → f.live ≡ true → f.stamp ≢ e.stamp → In x.rec f.marks
        → (f.stamp ≤ x.stamp) ⊎ (e.stamp < f.stamp)

  -- 8. No two entries have one stamp. Each has the store's epoch, a seq of at least 2, and one below the counter's.
  -- Opening stamps are of earlier epochs.
  pub record Stamps : Type 0 where
    pub differ : (id : ℕ) (v : View) → IsView s id v → (e f : Entry) (i j : ℕ) → get_elem? (entries v) i ≡ some e
        → get_elem? (entries v) j ≡ some f → e.stamp ≡ f.stamp → i ≡ j
    pub apart : (id other : ℕ) (v w : View) → id ≢ other → IsView s id v → IsView s other w
        → (e f : Entry) → In e (entries v) → In f (entries w) → e.stamp ≢ f.stamp
    pub from : (e : Entry) → Stands s.views e → b.base + 2 ≤ e.stamp
    pub to : (e : Entry) → Stands s.views e → e.stamp < b.base + slice_index s.words 0
    pub opening : (r : ℕ) → r < b.records → stamp_at b.words r < b.base

  -- 9. The counter is 2 and all draws. Draws and tries of all views are the tries with which the store was made, so
  -- the counter stays below 2^40. A view has drawn for each of its entries.
  pub record Counter : Type 0 where
    pub next : slice_index s.words 0 ≡ 2 + sum_by (λ (v : View). v.draws) s.views
    pub whole : sum_by (λ (v : View). v.draws) s.views + sum_by (λ (v : View). v.tries) s.views ≡ b.total
    pub few : b.total + 3 ≤ 2 ^ 40
    pub drew : (id : ℕ) (v : View) → IsView s id v → length (entries v) ≤ v.draws

  -- the rule
  pub record StoreRule : Type 0 where
    pub layout : Layout
    pub locks : LockBits
    pub versions : Versions
    pub stored : StoredCells
    pub seen : StampsSeen
    pub reading : OpenReads
    pub rows : RowsRead
    pub validation : Validation
    pub stamps : Stamps
    pub counter : Counter
