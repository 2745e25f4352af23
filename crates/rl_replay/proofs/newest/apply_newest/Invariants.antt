use Rattle.std.proofs.Common.{◌≡◌, ℕ, take}
use Rattle.std.specs.FinMap as finite
use Rattle.rl_txn.specs.Serial.{after_writes}
use Rattle.rl_replay.specs.Newest.{fresh, stamped}
use Rattle.rl_replay.proofs.newest.apply_newest.Given as goal

abbrev pub invariant-loop-write : goal.invariant-loop-write
invariant-loop-write l = record {
  rows : l.map ≡ after_writes l.fn.map (fresh l.fn.newest l.item.stamp (take l.write-index l.write-items));
  stamps : (q : ℕ × ℕ) → finite.get l.newest q ≡ stamped (finite.get l.fn.newest q) l.item.stamp q (fresh l.fn.newest l.item.stamp (take l.write-index l.write-items));
}
