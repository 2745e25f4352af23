-- What is reported of items and of rows.
use Rattle.std.specs.Prelude.{ℕ, List, [], ◌∷◌, length, Option, Some, None}
use Rattle.std.specs.List.{flat_map, range_with_len}
use Rattle.std.specs.FinMap as finite
use Rattle.rl_value.specs.Rows.{Rows}
use Rattle.rl_value.specs.Tables.{Table, name_of, size_of}
use Rattle.rl_txn.specs.declared.item.Item.{Item}
use Rattle.rl_report.specs.declared.line.ItemLine.{ItemLine}
use Rattle.rl_report.specs.declared.line.RowLine.{RowLine}

-- an item without its writes
abbrev pub item_line : Item → ItemLine
item_line x = record { stamp = x.stamp; worker = x.worker; index = x.index; reply = x.reply }

-- the row of a key, where it is present
abbrev pub row_line : (name : List ℕ) (key : ℕ) → Option (List ℕ) → List RowLine
row_line name key None = []
row_line name key (Some row) = record { table = name; key = key; row = row } ∷ []

-- the rows of the table of a number, by key
abbrev pub row_lines_of_table : List Table → Rows → (t : ℕ) → List RowLine
row_lines_of_table tables rows t =
    flat_map (λ key. row_line (name_of tables t) key (finite.get rows (t, key)))
    (range_with_len 0 (size_of tables t))

-- all rows, by table and key
abbrev pub row_lines : List Table → Rows → List RowLine
row_lines tables rows =
    flat_map (row_lines_of_table tables rows) (range_with_len 0 (length tables))
