use Rattle.std.proofs.Common.{◌≡◌, ◌++◌}
use Rattle.std.specs.String.{string_bytes}
use Rattle.std.specs.List.{flat_map, range_with_len}
use Rattle.std.specs.FinMap as finite
use Rattle.rl_value.specs.Tables.{name_of}
use Rattle.rl_text.specs.Printed.{text_of}
use Rattle.rl_script.specs.Printed.{row_lines}
use Rattle.rl_script.proofs.printed.push_rows_of.Given as goal

abbrev pub invariant-loop-key : goal.invariant-loop-key
invariant-loop-key l = string_bytes l.out ≡ string_bytes l.fn.out ++ text_of (flat_map (λ key. row_lines (name_of l.schema l.t) key (finite.get l.rows (l.t, key))) (range_with_len 0 l.key))
