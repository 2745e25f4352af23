use Rattle.rl_txn.specs.Eval.{IsEval, HasRows, rows_given, reads_room}
use Rattle.rl_txn.proofs.run.run.Given as goal

abbrev pub invariant-loop-table : goal.invariant-loop-table
invariant-loop-table l = record {
  of : IsEval l.schema l.txn l.eval;
  has : HasRows (rows_given l.eval) l.m;
}

abbrev pub decreases-loop-table : goal.decreases-loop-table
decreases-loop-table l = reads_room l.eval
