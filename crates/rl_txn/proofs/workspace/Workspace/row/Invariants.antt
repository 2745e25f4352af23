use Rattle.std.proofs.Common.{◌≡◌, map, take, length}
use Rattle.rl_txn.specs.Run.{value_of}
use Rattle.rl_txn.specs.Eval.{progress_of}
use Rattle.rl_txn.proofs.workspace.Workspace.row.Given as goal

abbrev pub invariant-loop-i : goal.invariant-loop-i
invariant-loop-i l = record {
  four : length l.cells ≡ 4;
  same : take l.i l.cells ≡ take l.i (map (value_of (progress_of l.self)) l.values);
}
