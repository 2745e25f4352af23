use Rattle.std.proofs.Common.{◌≡◌, length, map}
use Rattle.std.specs.List.{range_with_len}
use Rattle.rl_families.specs.Streams.{log_at}
use Rattle.rl_node.proofs.viewing.known_lens.Given as goal

abbrev pub invariant-loop-before : goal.invariant-loop-before
invariant-loop-before l = l.lens.items ≡ map (λ s. length (log_at l.known s)) (range_with_len 1 l.before)
