use Rattle.std.proofs.Common.{◌≡◌, ◌++◌}
use Rattle.std.specs.String.{string_bytes}
use Rattle.std.specs.List.{flat_map, range_with_len}
use Rattle.rl_text.specs.Printed.{text_of}
use Rattle.rl_script.specs.Printed.{rows_of_table}
use Rattle.rl_script.proofs.printed.push_rows.Given as goal

abbrev pub invariant-loop-t : goal.invariant-loop-t
invariant-loop-t l = string_bytes l.out ≡ string_bytes l.fn.out ++ text_of (flat_map (rows_of_table l.schema l.rows) (range_with_len 0 l.t))
