use Rattle.std.proofs.Common.{◌≡◌, ◌-◌, length, None}
use Rattle.rl_txn.specs.Eval.{IsEval}
use Rattle.rl_txn.proofs.eval.Eval.run_on.Given as goal

abbrev pub invariant-loop-self : goal.invariant-loop-self
invariant-loop-self l = record {
  of : IsEval l.schema l.txn l.self;
  nothing : l.self.wants ≡ None;
  read : l.self.work.read ≡ l.initial.self.work.read;
}

abbrev pub decreases-loop-self : goal.decreases-loop-self
decreases-loop-self l = length l.txn - l.self.done
