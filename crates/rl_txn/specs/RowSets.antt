-- Rows at places in rising order, which stand for a map.
use Rattle.std.specs.Prelude.{ℕ, List, Option, map, T}
use Rattle.std.specs.FinMap as finite
use Rattle.std.specs.FinMap.Entries.{is_sorted}
use Rattle.rl_value.specs.Rows.{place_cmp}
use Rattle.rl_txn.specs.Run.{Overlay}
use Rattle.rl_txn.specs.declared.row_set.RowAt.{RowAt}

-- where a row is, or is not
abbrev pub place_at : RowAt → ℕ × ℕ
place_at r = (r.table, r.key)

-- the row as the entry of a map
abbrev pub entry_of : RowAt → (ℕ × ℕ) × Option (List ℕ)
entry_of r = (place_at r, r.row)

-- by strictly rising place
abbrev pub IsInOrder : List RowAt → Type 0
IsInOrder rows = T (is_sorted place_cmp (map entry_of rows))

-- the map that rows in order stand for
abbrev pub rows_at : List RowAt → Overlay
rows_at rows = finite.from_sorted (map entry_of rows)
