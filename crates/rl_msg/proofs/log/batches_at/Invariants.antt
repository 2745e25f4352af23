use Rattle.std.proofs.Common.{◌≡◌, ◌-◌}
use Rattle.rl_fields.specs.Fields.{several}
use Rattle.rl_fields.proofs.Loops.{with_prefix}
use Rattle.rl_msg.specs.Reading.{embedded_batch}
use Rattle.rl_msg.proofs.log.batches_at.Given as goal

abbrev pub invariant-loop-batch : goal.invariant-loop-batch
invariant-loop-batch l = with_prefix l.log.items (several embedded_batch (l.count - l._batch) l.rest) ≡ several embedded_batch l.count l.bytes
