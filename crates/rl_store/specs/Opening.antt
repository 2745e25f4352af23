-- The store as it is made.
use Rattle.std.specs.Prelude.{◌≡◌, ℕ, ◌+◌, ◌*◌, ◌%◌, ◌^◌, ◌<◌, ◌≤◌, List, [], ◌∷◌, length, slice_index, slice_index_or, None}
use Rattle.rl_value.specs.Cells.{cells_of}
use Rattle.rl_store.specs.declared.rule.Start.{Start}
use Rattle.rl_store.specs.declared.view.View.{View}
use Rattle.rl_store.specs.Entries.{RowOf}
use Rattle.rl_store.specs.Layout.{Opening, place, cell_place, stamp_at, Shows}
use Rattle.rl_store.specs.Views.{blank}

-- what a store was made of
pub record Made : Type 0 where
  pub words : List ℕ
  pub columns : List ℕ
  pub epoch : ℕ
  pub tries : ℕ

-- the key of the rule, as this
abbrev pub made_of : (start : Start) → Made
made_of start = record {
  words = start.words.items;
  columns = start.columns.items;
  epoch = start.epoch;
  tries = start.tries;
}

-- what the rule knows of it
abbrev pub opening_of : (made : Made) → Opening
opening_of made = record {
  records = length made.columns;
  columns = λ r. slice_index made.columns r;
  words = made.words;
  base = made.epoch * 2 ^ 40;
  total = made.tries;
}

-- the view of the pass that comes with it: all tries, at rest
abbrev pub first_view : (tries : ℕ) → View
first_view tries = record { tries = tries; draws = 0; items = []; refusals = 0; last = None; splits = 0; attempt = blank }

-- the six words of a record, with zeros behind its last column
abbrev pub six_words : (word : ℕ) (cells : List ℕ) → List ℕ
six_words word cells =
    word ∷ slice_index cells 0 ∷ slice_index cells 1 ∷ slice_index cells 2 ∷ slice_index cells 3 ∷ slice_index cells 4 ∷ []

-- the words of the first k records: the counter is 2, no lock bit is set, and the stamps and rows are these
pub record Filled (k : ℕ) (columns stamps : List ℕ) (rows : List RowOf) (words : List ℕ) : Type 0 where
  pub wide : length words ≡ 1 + 6 * k
  pub counter : slice_index words 0 ≡ 2
  pub word : (r : ℕ) → r < k → slice_index words (place r) ≡ 2 * slice_index stamps r
  pub cell : (r j : ℕ) → r < k → j < 1 + slice_index columns r
      → slice_index words (cell_place r j) ≡ slice_index (cells_of (slice_index columns r) (slice_index_or rows r None)) j

-- a store that can open: its words show a row for each record, free, under a stamp of an earlier epoch
pub record CanOpen (made : Made) : Type 0 where
  pub wide : length made.words ≡ 1 + 6 * length made.columns
  pub counter : slice_index made.words 0 ≡ 2
  pub free : (r : ℕ) → r < length made.columns → slice_index made.words (place r) % 2 ≡ 0
  pub earlier : (r : ℕ) → r < length made.columns → stamp_at made.words r < made.epoch * 2 ^ 40
  pub row : (r : ℕ) → r < length made.columns → (row : RowOf) × Shows (opening_of made) made.words r row
  pub few : made.tries + 3 ≤ 2 ^ 40
  pub columns : (r : ℕ) → slice_index made.columns r ≤ 4

-- record r opens under this stamp and with this row
pub record OpensWith (made : Made) (r stamp : ℕ) (row : RowOf) : Type 0 where
  pub stamped : stamp_at made.words r ≡ stamp
  pub shown : Shows (opening_of made) made.words r row
