use Rattle.std.proofs.Common.{◌≡◌, [], ◌∷◌, ◌++◌, take}
use Rattle.std.specs.String.{string_bytes}
use Rattle.std.specs.List.{flat_map}
use Rattle.rl_text.specs.Printed.{line_of}
use Rattle.rl_report.specs.Printed.{item_words}
use Rattle.rl_report.proofs.printed.push_items.Given as goal

abbrev pub invariant-loop-item : goal.invariant-loop-item
invariant-loop-item l = string_bytes l.out ≡ string_bytes l.fn.out ++ flat_map (λ x. line_of (item_words x) ++ 10 ∷ []) (take l.item-index l.items)
