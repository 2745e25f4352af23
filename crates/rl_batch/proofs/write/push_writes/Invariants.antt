use Rattle.std.proofs.Common.{◌≡◌, ◌++◌, take, All}
use Rattle.std.specs.List.{flat_map}
use Rattle.rl_batch.specs.Encoding.{write_bytes}
use Rattle.rl_batch.specs.Ranges.{WriteHasWords}
use Rattle.rl_batch.proofs.write.push_writes.Given as goal

abbrev pub invariant-loop-write : goal.invariant-loop-write
invariant-loop-write l = (l.out ≡ l.initial.out ++ flat_map write_bytes (take l.write-index l.writes)) × All WriteHasWords (take l.write-index l.writes)
