-- Where the words of a record stand, and what they show. Word 0 is the counter, the next seq. Each record has six
-- words: the record word, presence, and room for four columns.
use Rattle.std.specs.Prelude.{◌≡◌, ℕ, ◌+◌, ◌*◌, ◌<◌, ◌⊎◌, List, Some, None, length, slice_index}
use Rattle.rl_base.specs.Words.{stamp_in}
use Rattle.rl_value.specs.Cells.{cells_of, row_of}
use Rattle.rl_store.specs.declared.view.Write.{Write}
use Rattle.rl_store.specs.Entries.{In, Entry, RowOf, Decided}

-- the record word of r
abbrev pub place : (r : ℕ) → ℕ
place r = 1 + 6 * r

-- cell k of r: presence is cell 0, and column c is cell c + 1
abbrev pub cell_place : (r k : ℕ) → ℕ
cell_place r k = 2 + (6 * r + k)

-- what a store was made of: how many records, the columns of each, the words as they opened, the least number that
-- is a stamp of its epoch, and the tries
pub record Opening : Type 0 where
  pub records : ℕ
  pub columns : ℕ → ℕ
  pub words : List ℕ
  pub base : ℕ
  pub total : ℕ

-- the row has as many numbers as there are columns
abbrev pub FitsColumns : (columns : ℕ) → RowOf → Type 0
FitsColumns columns None = Unit {0}
FitsColumns columns (Some row) = length row ≡ columns

-- the packed stamp in the word of r
abbrev pub stamp_at : (words : List ℕ) (r : ℕ) → ℕ
stamp_at words r = stamp_in (slice_index words (place r))

-- the entry has closed r with this row
abbrev pub Closes : (e : Entry) (r : ℕ) (row : RowOf) → Type 0
Closes e r row = (x : Write) × In x e.closed × (x.rec ≡ r) × (x.row ≡ row)

-- the words have these cells at r, presence and so many columns
abbrev pub HasCells : (columns : ℕ) (words : List ℕ) (r : ℕ) (cells : List ℕ) → Type 0
HasCells columns words r cells =
    (length cells ≡ 1 + columns) × ((k : ℕ) → k < 1 + columns → slice_index words (cell_place r k) ≡ slice_index cells k)

-- the cells that the words have at r stand for this row
abbrev pub HasRow : (columns : ℕ) (words : List ℕ) (r : ℕ) (row : RowOf) → Type 0
HasRow columns words r row = (cells : List ℕ) × HasCells columns words r cells × (row ≡ row_of cells)

module _ (b : Opening) where
  -- the words have this row at r
  abbrev pub Shows : (words : List ℕ) (r : ℕ) (row : RowOf) → Type 0
  Shows words r row = HasCells (b.columns r) words r (cells_of (b.columns r) row)

  -- the row of r under a stamp is the opening one, or that with which a decided entry of the stamp closed r
  abbrev pub Version : (entry : Entry → Type 0) (r stamp : ℕ) (row : RowOf) → Type 0
  Version entry r stamp row =
      ((stamp ≡ stamp_at b.words r) × Shows b.words r row)
      ⊎ ((e : Entry) × entry e × Decided e × (e.stamp ≡ stamp) × Closes e r row)
