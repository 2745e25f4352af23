use Rattle.std.proofs.Common.{◌≡◌, [], ◌∷◌, ◌++◌, take}
use Rattle.std.specs.String.{string_bytes}
use Rattle.std.specs.List.{flat_map}
use Rattle.rl_text.specs.Printed.{line_of}
use Rattle.rl_script.specs.Printed.{op_words}
use Rattle.rl_script.proofs.printed.push_ops.Given as goal

abbrev pub invariant-loop-op : goal.invariant-loop-op
invariant-loop-op l = string_bytes l.out ≡ string_bytes l.fn.out ++ flat_map (λ op. line_of (op_words l.schema op) ++ 10 ∷ []) (take l.op-index l.op-items)
