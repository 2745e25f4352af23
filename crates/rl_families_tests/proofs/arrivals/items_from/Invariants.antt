use Rattle.std.proofs.Common.{◌≡◌, ℕ, ◌+◌, ◌<◌, length, get_or}
use Rattle.rl_txn.specs.declared.item.Item.{Item}
use Rattle.rl_families_tests.proofs.arrivals.items_from.Given as goal

abbrev pub invariant-loop-i : goal.invariant-loop-i
invariant-loop-i l = record {
  count : length l.items ≡ l.i;
  stamps : (k : ℕ) (d : Item) → k < length l.items → (get_or l.items k d).stamp ≡ record { epoch = l.first.epoch; seq = l.first.seq + k };
}
