use Rattle.std.proofs.Common.{◌≡◌}
use Rattle.rl_progress.specs.Rule.{IsPublisher}
use Rattle.rl_progress.proofs.tests.publish_all.Given as goal

abbrev pub invariant-loop-seq : goal.invariant-loop-seq
invariant-loop-seq l = (l.seat.table ≡ l.progress) × IsPublisher l.seat.view × (l.seat.view.last ≡ l.seq)
