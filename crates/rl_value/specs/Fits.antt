-- Rows that fit the tables.
use Rattle.std.specs.Prelude.{◌≡◌, ℕ, ◌<◌, List, length, Some}
use Rattle.std.specs.FinMap as finite
use Rattle.rl_value.specs.Rows.{Rows}
use Rattle.rl_value.specs.Tables.{Table, size_of, columns_of}

-- each row that is present is at a key that is there, and has its table's columns
abbrev pub RowsFit : List Table → Rows → Type 0
RowsFit tables rows =
    (t k : ℕ) (row : List ℕ) → finite.get rows (t, k) ≡ Some row
    → (t < length tables) × (k < size_of tables t) × (length row ≡ columns_of tables t)
