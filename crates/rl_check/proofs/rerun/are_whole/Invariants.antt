use Rattle.std.proofs.Common.{◌≡◌, ℕ, ◌<◌, List, Some, length, slice_get, slice_index}
use Rattle.rl_txn.specs.declared.op.Op.{Op}
use Rattle.rl_check.proofs.rerun.are_whole.Given as goal

abbrev pub invariant-loop-worker : goal.invariant-loop-worker
invariant-loop-worker l = (w : ℕ) → w < l.worker → (list : List (List Op)) → slice_get l.lists w ≡ Some list → length list ≡ slice_index l.counts w
