use Rattle.std.proofs.Common.{◌≡◌, ◌-◌}
use Rattle.rl_fields.specs.Fields.{series}
use Rattle.rl_fields.proofs.Loops.{with_prefix}
use Rattle.rl_batch.specs.Reading.{item, seq_after}
use Rattle.rl_batch.proofs.item.series_at.Given as goal

abbrev pub invariant-loop-item : goal.invariant-loop-item
invariant-loop-item l = with_prefix l.items.items (series (item l.shared.epoch l.shared.worker) seq_after (l.count - l._item) l.least l.rest) ≡ series (item l.shared.epoch l.shared.worker) seq_after l.count 0 l.bytes
