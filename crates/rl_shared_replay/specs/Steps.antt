-- The six kinds of step, and what each tells: the view of the seat after it, by the word found. A
-- split leaves the view as it is and gives a blank one; a join takes in what the other has made and
-- seen.
use Rattle.std.specs.Prelude.{◌≡◌, ℕ, ◌*◌, ◌%◌, ◌<◌, Some}
use Rattle.atomic_table.specs.Table.{Me, Step}
use Rattle.rl_base.specs.Words.{stamp_in}
use Rattle.rl_shared_replay.specs.declared.view.Held.{Held}
use Rattle.rl_shared_replay.specs.declared.view.View.{View}
use Rattle.rl_shared_replay.specs.Layout.{place}
use Rattle.rl_shared_replay.specs.Views.{with_seen, with_hold, with_cell, let_go, renewed}

-- a seat's view, and no slots
abbrev pub Mine : Type 0
Mine = Me (Unit {0}) View

-- Load of r's word: its stamp was seen.
abbrev pub Load : (step : Step (Unit {0})) (before : Mine) (found : ℕ) (after : Mine) → Type 0
Load step before found after =
    (r : ℕ) → step.word ≡ place r → after ≡ (with_seen before.0 r (stamp_in found), before.1)

-- Lock, a fetch_or of 1 on r's word: a locked one is busy, and another is held.
abbrev pub Lock : (step : Step (Unit {0})) (before : Mine) (found : ℕ) (after : Mine) → Type 0
Lock step before found after =
    (r : ℕ) → step.word ≡ place r
    → (found % 2 ≡ 1 → after ≡ before)
    × (found % 2 ≡ 0 → after ≡ (with_hold before.0 r (stamp_in found), before.1))

-- Column store, to presence or a column of the record that is held: the cell is stored.
abbrev pub ColumnStore : (step : Step (Unit {0})) (before : Mine) (stored : ℕ) (after : Mine)
    → Type 0
ColumnStore step before stored after =
    (h : Held) → before.0.held ≡ Some h → after ≡ (with_cell before.0 h stored, before.1)

-- Closing store, to the word of the record that is held: the old word lets it go, and a new one
-- gives it a version.
abbrev pub Close : (step : Step (Unit {0})) (before : Mine) (stored : ℕ) (after : Mine) → Type 0
Close step before stored after =
    (h : Held) → before.0.held ≡ Some h
    → (stored ≡ 2 * h.old → after ≡ (let_go before.0 h, before.1))
    × ((stamp : ℕ) → stored ≡ 2 * stamp → h.old < stamp → after ≡ (renewed before.0 h stamp, before.1))
