-- The tables as a schema keeps them: entries under their names.
use Rattle.std.specs.Prelude.{List, map, String}
use Rattle.std.specs.Global.{Global}
use Rattle.std.specs.String.{string_bytes}
use Rattle.rl_value.specs.Tables.{Table}
use Rattle.rl_value.specs.declared.schema.Shape.{Shape}

-- a table as its entry says
abbrev pub table_of : String Global × Shape → Table
table_of e = record { name = string_bytes e.0; size = e.1.size; columns = e.1.columns }

-- the tables of some entries
abbrev pub tables_of : List (String Global × Shape) → List Table
tables_of entries = map table_of entries
