use Rattle.std.proofs.Common.{◌≡◌, ◌++◌, take}
use Rattle.std.specs.String.{string_bytes}
use Rattle.std.specs.List.{flat_map}
use Rattle.rl_text.specs.Printed.{text_of}
use Rattle.rl_report.specs.Printed.{middle_lines}
use Rattle.rl_report.proofs.printed.push_middles.Given as goal

abbrev pub invariant-loop-effect : goal.invariant-loop-effect
invariant-loop-effect l = string_bytes l.out ≡ string_bytes l.fn.out ++ flat_map (λ x. text_of (middle_lines x)) (take l.effect-index l.middle)
