use Rattle.std.proofs.Common.{◌≡◌, ℕ, Some, length, slice_get}
use Rattle.rl_worker.specs.declared.worker.Worker.{Worker}
use Rattle.rl_app.specs.Running.{IsFresh}
use Rattle.rl_app.proofs.run.workers.Given as goal

abbrev pub invariant-loop-before : goal.invariant-loop-before
invariant-loop-before l = record {
  count : length l.workers.items ≡ l.before;
  each : (i : ℕ) (w : Worker) → slice_get l.workers.items i ≡ Some w → IsFresh i w;
}
