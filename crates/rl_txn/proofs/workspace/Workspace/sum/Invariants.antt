use Rattle.std.proofs.Common.{◌≡◌, ◌-◌, ◌≤◌}
use Rattle.rl_txn.specs.Run.{scan_sum}
use Rattle.rl_txn.specs.Eval.{rows_of}
use Rattle.rl_txn.proofs.workspace.Workspace.sum.Given as goal

abbrev pub invariant-loop-k : goal.invariant-loop-k
invariant-loop-k l = record {
  from : l.key ≤ l.k;
  sum : l.sum ≡ scan_sum (rows_of l.self.read.0) l.self.written.0 l.table l.key (l.k - l.key) l.column;
}
