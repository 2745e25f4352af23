use Rattle.std.proofs.Common.{◌≡◌}
use Rattle.rl_progress.proofs.Watermarks.{LoadedBelow, LeastBelow}
use Rattle.rl_progress.proofs.progress.Progress.watermark.Given as goal

abbrev pub invariant-loop-stream : goal.invariant-loop-stream
invariant-loop-stream l =
    (l.seat.table ≡ l.fn.seat.table) × LoadedBelow l.stream l.fn.seat.view l.seat.view × LeastBelow l.stream l.seat.view.seen l.least
