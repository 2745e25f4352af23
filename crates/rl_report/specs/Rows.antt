-- The rows at the front of some lines. No public contract cites it.
use Rattle.std.specs.Prelude.{◌≡◌, ℕ, List, [], length, Result, Ok, Err}
use Rattle.rl_text.specs.Printed.{Line}
use Rattle.rl_report.specs.declared.fault.Fault.{Fault}
use Rattle.rl_report.specs.declared.line.RowLine.{RowLine}
use Rattle.rl_report.specs.Read.{rows}

-- what was read, or nothing where something is wrong
abbrev pub read_or_none : Result (List RowLine × List Line) Fault → List RowLine
read_or_none (Ok x) = x.0
read_or_none (Err fault) = []

-- the rows that are read there
abbrev pub rows_there : List Line → List RowLine
rows_there lines = read_or_none (rows lines)

-- so many rows are read there, and nothing is wrong with them
pub record AreRows (lines : List Line) (count : ℕ) : Type 0 where
  pub rest : List Line
  pub read : rows lines ≡ Ok (rows_there lines, rest)
  pub counted : count ≡ length (rows_there lines)
