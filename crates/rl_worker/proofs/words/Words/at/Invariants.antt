use Rattle.std.proofs.Common.{◌≡◌, ℕ, ◌<◌, map}
use Rattle.std.specs.List.{range_with_len}
use Rattle.rl_worker.specs.Opening.{opening_rec}
use Rattle.rl_worker.specs.Workers.{RecordFits}
use Rattle.rl_worker.specs.Told.{found}
use Rattle.rl_worker.proofs.words.Words.at.Given as goal

abbrev pub invariant-loop-rec : goal.invariant-loop-rec
invariant-loop-rec l = record {
  is : l.records.items ≡ map (opening_rec l.schema l.map l.stamps) (range_with_len 0 l.rec);
  fit : (i : ℕ) → i < l.rec → RecordFits l.schema i (found l.records.items i);
}
