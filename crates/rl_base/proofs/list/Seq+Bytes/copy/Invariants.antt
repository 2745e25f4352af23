use Rattle.std.proofs.Common.{◌≡◌, take}
use Rattle.rl_base.proofs.list.Seq+Bytes.copy.Given as goal

abbrev pub invariant-loop-bytes : goal.invariant-loop-bytes
invariant-loop-bytes l = l.log.items ≡ take l.bytes-index l.bytes-items
