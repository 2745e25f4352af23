use Rattle.std.proofs.Common.{◌≡◌, ◌++◌, take}
use Rattle.std.specs.List.{flat_map}
use Rattle.rl_msg.specs.Encoding.{embedded_batch_bytes}
use Rattle.rl_msg.proofs.log.push_log.Given as goal

abbrev pub invariant-loop-batch : goal.invariant-loop-batch
invariant-loop-batch l = l.out ≡ l.initial.out ++ flat_map embedded_batch_bytes (take l.batch-index l.log)
