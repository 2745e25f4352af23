use Rattle.std.proofs.Common.{◌≤◌, ℕ, length, ap, ◌∙◌, arith}
use Rattle.rl_txn.specs.Run.{Overlay}
use Rattle.rl_txn.specs.Eval.{wants}
use Rattle.rl_txn.proofs.Evals.{ended}
use Rattle.rl_txn.proofs.eval.Eval.run_on.Goals as goal

pub returns-clause-wants : goal.returns-clause-wants
returns-clause-wants c =
    let past : length c.args.txn.now ≤ c.loop-self.self.done = omega arith in
    (ended c.args.schema.now c.args.txn.now c.loop-self.self c.loop-self.invariant.of past).0 ∙ ap (wants c.args.schema.now c.args.txn.now) (ap (λ (s : Overlay × ℕ). s.0) c.loop-self.invariant.read)

pub returns-clause-asked : goal.returns-clause-asked
returns-clause-asked c =
    let past : length c.args.txn.now ≤ c.loop-self.self.done = omega arith in
    (ended c.args.schema.now c.args.txn.now c.loop-self.self c.loop-self.invariant.of past).1
