use Rattle.std.proofs.Common.{◌≡◌, ℕ, [], length, get_or}
use Rattle.rl_cut.specs.Kept.{AreUpTo}
use Rattle.rl_cut.proofs.due.advance.Given as goal

abbrev pub invariant-loop-i : goal.invariant-loop-i
invariant-loop-i l = record {
  places : length l.counted.items ≡ length l.initial.counted.items;
  counted : (k : ℕ) → AreUpTo l.mark (get_or l.logs k []) (get_or l.counted.items k 0);
}
