use Rattle.std.proofs.Common.{◌≡◌, ◌++◌}
use Rattle.std.specs.List.{flat_map, range_with_len}
use Rattle.rl_report.specs.Lines.{row_lines_of_table}
use Rattle.rl_check.proofs.rows.behind_rows.Given as goal

abbrev pub invariant-loop-t : goal.invariant-loop-t
invariant-loop-t l = l.fn.lines ≡ flat_map (row_lines_of_table l.schema l.rows) (range_with_len 0 l.t) ++ l.left
