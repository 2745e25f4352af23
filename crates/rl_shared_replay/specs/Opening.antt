-- The words as a replay makes them.
use Rattle.std.specs.Prelude.{◌≡◌, ℕ, ◌+◌, ◌*◌, ◌<◌, ◌≤◌, List, [], ◌∷◌, length, slice_index, sum}
use Rattle.std.specs.FinMap as finite
use Rattle.rl_value.specs.Cells.{cells_of}
use Rattle.rl_value.specs.Rows.{Rows}
use Rattle.rl_value.specs.Tables.{Table, columns_of}
use Rattle.rl_tables.specs.Numbers.{sizes_of, place_of}
use Rattle.rl_txn.specs.declared.item.Item.{Item}
use Rattle.rl_shared_replay.specs.Layout.{RowOf, place, cell_place, Shows}
use Rattle.rl_shared_replay.specs.Start.{Made}

-- the six words of a record that was never written
abbrev pub six_words : (row : RowOf) → List ℕ
six_words row =
    0 ∷ slice_index (cells_of 4 row) 0 ∷ slice_index (cells_of 4 row) 1 ∷ slice_index (cells_of 4 row) 2
    ∷ slice_index (cells_of 4 row) 3 ∷ slice_index (cells_of 4 row) 4 ∷ []

-- the row of a record in the opening rows
abbrev pub row_of_record : (sizes : List ℕ) (rows : Rows) (r : ℕ) → RowOf
row_of_record sizes rows r = finite.get rows (place_of sizes r)

-- the columns of the first n records
pub record Wide (tables : List Table) (sizes : List ℕ) (n : ℕ) (columns : List ℕ) : Type 0 where
  pub long : length columns ≡ n
  pub each : (r : ℕ) → r < n → slice_index columns r ≡ columns_of tables (place_of sizes r).0
  pub some : (r : ℕ) → r < n → 0 < slice_index columns r
  pub few : (r : ℕ) → r < n → slice_index columns r ≤ 4

-- the words of the first n records: no lock bit, stamp 0, and the opening rows
pub record Filled (sizes : List ℕ) (rows : Rows) (n : ℕ) (words : List ℕ) : Type 0 where
  pub long : length words ≡ 1 + 6 * n
  pub word : (r : ℕ) → r < n → slice_index words (place r) ≡ 0
  pub cell : (r k : ℕ) → r < n → k < 5
      → slice_index words (cell_place r k) ≡ slice_index (cells_of 4 (row_of_record sizes rows r)) k

-- what a replay of these tables, rows and parts starts from
pub record IsStart (tables : List Table) (rows : Rows) (items : List (List Item)) (made : Made) : Type 0 where
  pub sizes : made.sizes ≡ sizes_of tables
  pub parts : made.parts ≡ items
  pub columns : Wide tables made.sizes (sum made.sizes) made.columns
  pub words : Filled made.sizes rows (sum made.sizes) made.words

-- words on which the rule can begin
pub record CanOpen (made : Made) : Type 0 where
  pub counted : length made.columns ≡ sum made.sizes
  pub records : length made.columns ≤ 65536
  pub wide : length made.words ≡ 1 + 6 * length made.columns
  pub free : (r : ℕ) → r < length made.columns → slice_index made.words (place r) ≡ 0
  pub row : (r : ℕ) → r < length made.columns → (row : RowOf)
      × Shows (slice_index made.columns r) made.words r row
  pub some : (r : ℕ) → r < length made.columns → 0 < slice_index made.columns r
  pub few : (r : ℕ) → slice_index made.columns r ≤ 4
