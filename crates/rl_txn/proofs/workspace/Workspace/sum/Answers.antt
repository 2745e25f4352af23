use Rattle.std.proofs.Common.{◌+◌, ◌%◌, ◌^◌, arith, ap, ◌∙◌}
use Rattle.rl_txn.specs.Eval.{rows_of}
use Rattle.rl_txn.proofs.Folds.{scan_more}
use Rattle.rl_txn.proofs.workspace.Workspace.sum.Goals as goal

pub loop-k-preserved : goal.loop-k-preserved
loop-k-preserved c =
    let l = c.loop-k in
    record {
      from = omega arith;
      sum = ap (λ x. (l.sum + x) % 2 ^ 64) c.column-sum.ensures
          ∙ scan_more (rows_of c.args.self.now.read.0) c.args.self.now.written.0 c.args.table c.args.key l.k c.args.column l.sum l.invariant.from l.invariant.sum;
    }
