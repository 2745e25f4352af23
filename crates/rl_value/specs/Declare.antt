-- When a table can be declared.
use Rattle.std.specs.Prelude.{ℕ, ◌+◌, List, length, ◌==◌, nat_lt, Option, Some, None, is_some, if◌then◌else◌}
use Rattle.rl_base.specs.declared.limit.TheConstants.{RECORDS, TABLES}
use Rattle.rl_value.specs.Tables.{Table, table_named, record_count}
use Rattle.rl_value.specs.declared.schema.DeclareError.{DeclareError}
use Rattle.rl_value.specs.declared.schema.DeclareError.TheVariants.{DuplicateTable, TooManyTables, TooManyRecords}

-- the first reason for which a table of this name and size can't join the others, if there is one
abbrev pub refusal : List ℕ → ℕ → List Table → Option DeclareError
refusal name size tables =
    if is_some (table_named name tables) then Some DuplicateTable
    else (if length tables == TABLES then Some TooManyTables
    else (if nat_lt RECORDS (record_count tables + size) then Some TooManyRecords else None))
