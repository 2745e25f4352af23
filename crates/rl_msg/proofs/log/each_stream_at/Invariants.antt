use Rattle.std.proofs.Common.{◌≡◌, ◌-◌, length}
use Rattle.std.specs.List.{zip}
use Rattle.rl_fields.specs.Fields.{several}
use Rattle.rl_fields.proofs.Loops.{with_prefix}
use Rattle.rl_msg.specs.Reading.{stream}
use Rattle.rl_msg.proofs.log.each_stream_at.Given as goal

abbrev pub invariant-loop-stream : goal.invariant-loop-stream
invariant-loop-stream l = (length l.logs.items ≡ length l.ballots.items) × (with_prefix (zip l.ballots.items l.logs.items) (several stream (l.count - l._stream) l.rest) ≡ several stream l.count l.bytes)
