-- A row as the cells of its record: presence, and then the columns.
use Rattle.std.specs.Prelude.{ℕ, zero, suc, List, [], ◌∷◌, replicate, Option, Some, None}

-- presence is 1 and the columns are the row's, or all are zeros where there is no row
abbrev pub cells_of : (columns : ℕ) → Option (List ℕ) → List ℕ
cells_of columns None = 0 ∷ replicate columns 0
cells_of columns (Some row) = 1 ∷ row

-- the row that cells stand for
abbrev pub row_of : List ℕ → Option (List ℕ)
row_of [] = None
row_of (zero ∷ row) = None
row_of (suc n ∷ row) = Some row
