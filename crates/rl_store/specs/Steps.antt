-- The ten kinds of step, and what each tells: the view of the pass after it, by the word found. Each is named with the
-- act that it is.
use Rattle.std.specs.Prelude.{◌≡◌, ◌≢◌, ℕ, ◌+◌, ◌*◌, ◌%◌, ◌^◌, ◌<◌, ◌≤◌, Some}
use Rattle.atomic_table.specs.Table.{Me, Step}
use Rattle.rl_base.specs.Words.{stamp_in, without_lock}
use Rattle.rl_value.specs.Cells.{row_of}
use Rattle.rl_store.specs.declared.view.Reading.{Reading}
use Rattle.rl_store.specs.declared.view.Read.{Read}
use Rattle.rl_store.specs.declared.view.Held.{Held}
use Rattle.rl_store.specs.declared.view.View.{View}
use Rattle.rl_store.specs.Entries.{In, Entry, entries}
use Rattle.rl_store.specs.Layout.{place, cell_place}
use Rattle.rl_store.specs.Views.{locked_at, changed_at, above_at, rested, refused, stopped, begun, loaded, with_read, with_lock, with_draw, with_valid, settled, with_cell, without, closed_with, unlocked_with}

-- a pass's view, and no slots
abbrev pub Mine : Type 0
Mine = Me (Unit {0}) View

-- FirstLoad, a load of r's word: a locked one refuses, and of another the stamp is kept.
abbrev pub FirstLoad : (step : Step (Unit {0})) (before : Mine) (found : ℕ) (after : Mine) → Type 0
FirstLoad step before found after =
    (r : ℕ) → step.word ≡ place r
    → (after.1 ≡ before.1)
    × (found % 2 ≡ 1 → after.0 ≡ refused before.0 (locked_at r found))
    × (found % 2 ≡ 0 → after.0 ≡ begun before.0 r (stamp_in found))

-- ColumnLoad, a load of presence or a column: the cell is kept.
abbrev pub ColumnLoad : (step : Step (Unit {0})) (before : Mine) (found : ℕ) (after : Mine) → Type 0
ColumnLoad step before found after =
    (x : Reading) → before.0.attempt.reading ≡ Some x → (after.1 ≡ before.1) × (after.0 ≡ loaded before.0 x found)

-- Confirm, a load of r's word again: with the stamp seen and no lock the read counts.
abbrev pub Confirm : (step : Step (Unit {0})) (before : Mine) (found : ℕ) (after : Mine) → Type 0
Confirm step before found after =
    (x : Reading) → before.0.attempt.reading ≡ Some x
    → (after.1 ≡ before.1)
    × (found ≡ 2 * x.seen → after.0 ≡ with_read before.0 x.rec x.seen (row_of x.cells))
    × (found ≢ 2 * x.seen → found % 2 ≡ 1 → after.0 ≡ refused before.0 (locked_at x.rec found))
    × (found ≢ 2 * x.seen → found % 2 ≡ 0 → after.0 ≡ refused before.0 (changed_at x.rec (2 * x.seen) found))

-- Rest, a load of word 0, which is a join with no other view: the attempt is over. The tries are few.
abbrev pub Rest : (step : Step (Unit {0})) (before : Mine) (found : ℕ) (after : Mine) → Type 0
Rest step before found after =
    (after.1 ≡ before.1) × (after.0 ≡ rested before.0) × (before.0.tries + 3 ≤ 2 ^ 40)

-- Lock, a fetch_or of 1 on r's word: a locked one refuses, and another is held.
abbrev pub Lock : (step : Step (Unit {0})) (before : Mine) (found : ℕ) (after : Mine) → Type 0
Lock step before found after =
    (r : ℕ) → step.word ≡ place r
    → (after.1 ≡ before.1)
    × (found % 2 ≡ 1 → after.0 ≡ stopped before.0.attempt.held before.0 (locked_at r found))
    × (found % 2 ≡ 0 → after.0 ≡ with_lock before.0 r found)

-- Draw, a fetch_add of 1 on word 0, in an epoch whose stamps begin at base: the seq found is the attempt's, below the
-- end of seqs, and its stamp is above those of the pass's entries. With no read and no record held it is decided, and
-- is an item.
abbrev pub Draw : (base : ℕ) (step : Step (Unit {0})) (before : Mine) (found : ℕ) (after : Mine) → Type 0
Draw base step before found after =
    (after ≡ (settled (with_draw before.0 (base + found)), before.1))
    × (2 ≤ found) × (found + 2 ≤ 2 ^ 40)
    × ((e : Entry) → In e (entries before.0) → e.stamp < base + found)

-- Draw, in a pass that takes no seq above a limit: such a seq refuses.
abbrev pub DrawBelow : (base limit : ℕ) (step : Step (Unit {0})) (before : Mine) (found : ℕ) (after : Mine) → Type 0
DrawBelow base limit step before found after =
    (after.1 ≡ before.1)
    × (found ≤ limit → after.0 ≡ settled (with_draw before.0 (base + found)))
    × (limit < found → after.0 ≡ stopped before.0.attempt.held (with_draw before.0 (base + found)) (above_at found))
    × (2 ≤ found) × (found + 2 ≤ 2 ^ 40)
    × ((e : Entry) → In e (entries before.0) → e.stamp < base + found)

-- Validate, a load of r's word: with the stamp that was read, and no lock of another, the read is validated. With the
-- last one the attempt is decided, and is an item where it holds no record.
abbrev pub Validate : (held : ℕ) (step : Step (Unit {0})) (before : Mine) (found : ℕ) (after : Mine) → Type 0
Validate held step before found after =
    (x : Read) → In x before.0.attempt.reads → step.word ≡ place x.rec
    → (after.1 ≡ before.1)
    × (found ≡ 2 * x.stamp + held → after.0 ≡ settled (with_valid before.0 x.rec))
    × (found ≢ 2 * x.stamp + held → held ≡ 0 → found % 2 ≡ 1 → after.0 ≡ stopped before.0.attempt.held before.0 (locked_at x.rec found))
    × (found ≢ 2 * x.stamp + held → found % 2 ≡ held
    → after.0 ≡ stopped before.0.attempt.held before.0 (changed_at x.rec (2 * x.stamp) (without_lock found)))
    × (held ≡ 1 → found % 2 ≡ 1)

-- ColumnStore, a store to presence or a column of a record that is held: the cell is stored.
abbrev pub ColumnStore : (step : Step (Unit {0})) (before : Mine) (stored : ℕ) (after : Mine) → Type 0
ColumnStore step before stored after =
    (r k : ℕ) → k < 5 → step.word ≡ cell_place r k → after ≡ (with_cell before.0 r stored, before.1)

-- Close, a store of the new word to a record that is held, after a decision: the record has the row that was stored.
abbrev pub CloseNew : (step : Step (Unit {0})) (before : Mine) (stored : ℕ) (after : Mine) → Type 0
CloseNew step before stored after =
    (h : Held) (stamp : ℕ) → In h before.0.attempt.held → step.word ≡ place h.rec → stored ≡ 2 * stamp
    → after ≡ (closed_with (without h.rec before.0.attempt.held) before.0 stamp h.rec (row_of h.stored), before.1)

-- Close, a store of the old word, without one: the record is let go.
abbrev pub CloseOld : (step : Step (Unit {0})) (before : Mine) (stored : ℕ) (after : Mine) → Type 0
CloseOld step before stored after =
    (r : ℕ) → step.word ≡ place r → after ≡ (unlocked_with (without r before.0.attempt.held) before.0 r, before.1)
