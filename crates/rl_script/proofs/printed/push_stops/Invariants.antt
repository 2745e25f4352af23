use Rattle.std.proofs.Common.{◌≡◌, [], ◌∷◌, ◌++◌, take}
use Rattle.std.specs.String.{string_bytes}
use Rattle.std.specs.List.{flat_map}
use Rattle.rl_text.specs.Printed.{line_of}
use Rattle.rl_script.specs.Printed.{stop_line}
use Rattle.rl_script.proofs.printed.push_stops.Given as goal

abbrev pub invariant-loop-d : goal.invariant-loop-d
invariant-loop-d l = string_bytes l.out ≡ string_bytes l.fn.out ++ flat_map (λ d. line_of (stop_line d) ++ 10 ∷ []) (take l.d-index l.stops)
