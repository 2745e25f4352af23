use Rattle.std.proofs.Common.{◌≡◌, ◌*◌, ◌≤◌, sum_by, take}
use Rattle.rl_txn.specs.Eval.{reads_at_most}
use Rattle.rl_txn.proofs.eval.most_reads.Given as goal

abbrev pub invariant-loop-op : goal.invariant-loop-op
invariant-loop-op l = record {
  few : l.count ≤ 256 * l.op-index;
  sum : l.count ≡ sum_by reads_at_most (take l.op-index l.op-items);
}
