-- Tables as they were declared.
use Rattle.std.specs.Prelude.{◌≡◌, ℕ, ◌<◌, ◌≤◌, List, [], Option, Some, length, slice_get, sum_by, true, All}
use Rattle.std.specs.Option.{option_map_or}
use Rattle.std.specs.Str.{bytes_eq}
use Rattle.std.specs.List.{position_from}
use Rattle.rl_base.specs.declared.limit.TheConstants.{RECORDS, TABLES}
use Rattle.rl_value.specs.Names.{is_name}

-- a table: its name, how many keys it has, and how many columns each of its rows
pub record Table : Type 0 where
  pub name : List ℕ
  pub size : ℕ
  pub columns : ℕ

-- the name of the table of a number
abbrev pub name_of : List Table → ℕ → List ℕ
name_of tables t = option_map_or (λ table. table.name) (slice_get tables t) []

-- how many keys it has
abbrev pub size_of : List Table → ℕ → ℕ
size_of tables t = option_map_or (λ table. table.size) (slice_get tables t) 0

-- how many columns each of its rows has
abbrev pub columns_of : List Table → ℕ → ℕ
columns_of tables t = option_map_or (λ table. table.columns) (slice_get tables t) 0

-- the number of the table of a name
abbrev pub table_named : List ℕ → List Table → Option ℕ
table_named name tables = position_from (λ t. bytes_eq name t.name) 0 tables

-- the records of all tables: one for each key
abbrev pub record_count : List Table → ℕ
record_count tables = sum_by (λ t. t.size) tables

-- a table keeps the limits of one: its keys are records, and a row has one to four columns
pub record IsTable (t : Table) : Type 0 where
  pub named : is_name t.name ≡ true
  pub some_keys : 1 ≤ t.size
  pub few_keys : t.size ≤ RECORDS
  pub some_columns : 1 ≤ t.columns
  pub few_columns : t.columns ≤ 4

-- no table has the name of one before it, so that each is found by its own
abbrev pub HaveNamesOfTheirOwn : List Table → Type 0
HaveNamesOfTheirOwn tables =
    (t : ℕ) → t < length tables → table_named (name_of tables t) tables ≡ Some t

-- the tables have names of their own, and keep the limits of each and of all together
pub record IsSchema (tables : List Table) : Type 0 where
  pub names : HaveNamesOfTheirOwn tables
  pub few : length tables ≤ TABLES
  pub records : record_count tables ≤ RECORDS
  pub each : All IsTable tables
