use Rattle.std.proofs.Common.{◌≡◌, [], ◌∷◌, ◌++◌, take}
use Rattle.std.specs.String.{string_bytes}
use Rattle.std.specs.List.{flat_map}
use Rattle.rl_text.specs.Printed.{line_of}
use Rattle.rl_app.specs.Summary.{node_words}
use Rattle.rl_app.proofs.summary.push_nodes.Given as goal

abbrev pub invariant-loop-block : goal.invariant-loop-block
invariant-loop-block l = string_bytes l.out ≡ string_bytes l.fn.out ++ flat_map (λ x. line_of (node_words x) ++ 10 ∷ []) (take l.block-index l.blocks)
