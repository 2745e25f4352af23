use Rattle.std.proofs.Common.{◌≡◌, ℕ, map}
use Rattle.std.specs.List.{range_with_len}
use Rattle.rl_node.specs.Addressed.{addressed}
use Rattle.rl_node.specs.Outs.{Adds}
use Rattle.rl_node.proofs.answer.send_each.Given as goal

abbrev pub invariant-loop-before : goal.invariant-loop-before
invariant-loop-before l = record {
  same : (to : ℕ) → addressed l.m to ≡ addressed l.fn.m to;
  sent : Adds l.initial.sends l.sends (map (addressed l.fn.m) (range_with_len 1 l.before));
}
