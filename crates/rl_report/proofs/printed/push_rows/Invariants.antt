use Rattle.std.proofs.Common.{◌≡◌, [], ◌∷◌, ◌++◌, take}
use Rattle.std.specs.String.{string_bytes}
use Rattle.std.specs.List.{flat_map}
use Rattle.rl_text.specs.Printed.{line_of}
use Rattle.rl_report.specs.Printed.{row_words}
use Rattle.rl_report.proofs.printed.push_rows.Given as goal

abbrev pub invariant-loop-row : goal.invariant-loop-row
invariant-loop-row l = string_bytes l.out ≡ string_bytes l.fn.out ++ flat_map (λ x. line_of (row_words x) ++ 10 ∷ []) (take l.row-index l.rows)
