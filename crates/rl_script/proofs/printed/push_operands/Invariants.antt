use Rattle.std.proofs.Common.{◌≡◌, ◌∷◌, ◌++◌, take}
use Rattle.std.specs.String.{string_bytes}
use Rattle.std.specs.List.{flat_map}
use Rattle.rl_script.specs.Printed.{operand_word}
use Rattle.rl_script.proofs.printed.push_operands.Given as goal

abbrev pub invariant-loop-operand : goal.invariant-loop-operand
invariant-loop-operand l = string_bytes l.out ≡ string_bytes l.fn.out ++ flat_map (λ a. 32 ∷ operand_word a) (take l.operand-index l.operands)
