use Rattle.std.proofs.Common.{◌≡◌, take}
use Rattle.rl_txn.specs.Serial.{after_writes}
use Rattle.rl_txn.proofs.item.apply.Given as goal

abbrev pub invariant-loop-write : goal.invariant-loop-write
invariant-loop-write l = l.m ≡ after_writes l.fn.m (take l.write-index l.write-items)
