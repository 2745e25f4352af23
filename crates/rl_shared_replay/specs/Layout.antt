-- Where the words of a record stand, and what they show. Word 0 is the one that a split and a join
-- load. Each record has six words: the record word, presence, and room for four columns.
use Rattle.std.specs.Prelude.{◌≡◌, ℕ, ◌+◌, ◌*◌, ◌<◌, List, length, slice_index, Option}
use Rattle.rl_base.specs.Words.{stamp_in}
use Rattle.rl_value.specs.Cells.{cells_of}

-- a row, or that there is none
abbrev pub RowOf : Type 0
RowOf = Option (List ℕ)

-- the record word of r
abbrev pub place : (r : ℕ) → ℕ
place r = 1 + 6 * r

-- cell k of r: presence is cell 0, and column c is cell c + 1
abbrev pub cell_place : (r k : ℕ) → ℕ
cell_place r k = 2 + (6 * r + k)

-- the packed stamp in the word of r
abbrev pub stamp_at : (words : List ℕ) (r : ℕ) → ℕ
stamp_at words r = stamp_in (slice_index words (place r))

-- the words have the cells of this row at r: presence and so many columns
abbrev pub Shows : (columns : ℕ) (words : List ℕ) (r : ℕ) (row : RowOf) → Type 0
Shows columns words r row =
    (length (cells_of columns row) ≡ 1 + columns)
    × ((k : ℕ) → k < 1 + columns → slice_index words (cell_place r k) ≡ slice_index (cells_of columns row) k)
