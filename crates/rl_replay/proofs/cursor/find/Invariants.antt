use Rattle.std.proofs.Common.{◌≡◌, ◌+◌, ℕ, length, take}
use Rattle.rl_replay.specs.Entries.{entries}
use Rattle.rl_replay.specs.Cursors.{FitsCursor}
use Rattle.rl_replay.proofs.cursor.find.Given as goal

abbrev pub invariant-loop-batch : goal.invariant-loop-batch
invariant-loop-batch l = record {
  batch : l.cursor.batch ≡ l.initial.cursor.batch + l.batch-index;
  counts : length (entries (take l.cursor.batch l.log)) + l.cursor.index ≡ length (entries (take l.initial.cursor.batch l.log)) + l.initial.cursor.index;
  onward : (n : ℕ) → FitsCursor n l.initial.cursor → FitsCursor n l.cursor;
}
