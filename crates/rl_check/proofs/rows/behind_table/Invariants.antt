use Rattle.std.proofs.Common.{◌≡◌, ◌++◌}
use Rattle.std.specs.List.{flat_map, range_with_len}
use Rattle.std.specs.FinMap as finite
use Rattle.rl_value.specs.Tables.{name_of}
use Rattle.rl_report.specs.Lines.{row_line}
use Rattle.rl_check.proofs.rows.behind_table.Given as goal

abbrev pub invariant-loop-key : goal.invariant-loop-key
invariant-loop-key l = l.fn.lines ≡ flat_map (λ key. row_line (name_of l.schema l.t) key (finite.get l.rows (l.t, key))) (range_with_len 0 l.key) ++ l.left
