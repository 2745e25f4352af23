use Rattle.std.proofs.Common.{◌≡◌, ◌-◌}
use Rattle.rl_fields.specs.Fields.{series}
use Rattle.rl_fields.proofs.Loops.{with_prefix}
use Rattle.rl_batch.specs.Reading.{write, place_after}
use Rattle.rl_batch.proofs.write.series_at.Given as goal

abbrev pub invariant-loop-write : goal.invariant-loop-write
invariant-loop-write l = with_prefix l.writes.items (series write place_after (l.count - l._write) l.least l.rest) ≡ series write place_after l.count (0, 0) l.bytes
