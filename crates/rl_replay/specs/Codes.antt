-- The code of the rows, by which proofs tell them apart.
use Rattle.std.specs.Coded.{Coded, coded_ℕ, coded×, coded_list}
use Rattle.std.specs.FinMap.{code}
use Rattle.rl_value.specs.Rows.{Rows}

abbrev pub rows_code : Coded Rows
rows_code = code (coded× coded_ℕ coded_ℕ) (coded_list coded_ℕ)
