use Rattle.std.proofs.Common.{◌≡◌, ◌+◌, sym, ap, ◌∙◌, subst, length, min}
use Rattle.rl_value.specs.Rows.{Rows}
use Rattle.rl_txn.specs.Run.{ops_done, beginning}
use Rattle.rl_txn.specs.Eval.{IsEval, HasRows, progress_of}
use Rattle.rl_txn.specs.declared.workspace.Workspace.{Workspace}
use Rattle.rl_txn.specs.declared.write.End.TheVariants.{Declined}
use Rattle.rl_txn.proofs.Evals.{after_op, declined, rest_at}
use Rattle.rl_txn.proofs.eval.Eval.do_op.Goals as goal

pub returns-then-not-step-clause-of : goal.returns-then-not-step-clause-of
returns-then-not-step-clause-of c = subst (λ w. IsEval c.args.schema.now c.args.txn.now (record c.args.self.now { work = w })) (sym c.if-not-step.ensures.same) c.requires.of

pub returns-then-not-step-clause-wants : goal.returns-then-not-step-clause-wants
returns-then-not-step-clause-wants c =
    (declined c.args.schema.now c.args.txn.now c.args.self.now c.get-op.result.now _ c.requires.of (rest_at c.args.txn.now c.args.self.now.done c.get-op.result.now c.get-op.ensures) c.requires.ready c.if-not-step.ensures.leaves.0).0

pub returns-then-not-step-clause-asked : goal.returns-then-not-step-clause-asked
returns-then-not-step-clause-asked c =
    let done = c.args.self.now.done in
    subst (λ (w : Workspace). (rows : Rows) → HasRows w.read.0 rows → ops_done c.args.schema.now rows 1 0 c.args.txn.now beginning ≡ (progress_of w, Declined (done + 1))) (sym c.if-not-step.ensures.same)
    (declined c.args.schema.now c.args.txn.now c.args.self.now c.get-op.result.now _ c.requires.of (rest_at c.args.txn.now c.args.self.now.done c.get-op.result.now c.get-op.ensures) c.requires.ready c.if-not-step.ensures.leaves.0).1

pub returns-clause-of : goal.returns-clause-of
returns-clause-of c =
    let least : c.min-self.result ≡ min (c.args.self.now.done + 1 + c.passes-passes.result) (length c.args.txn.now) = c.min-self.ensures ∙ ap (min (c.args.self.now.done + 1 + c.passes-passes.result)) c.len.ensures in
    subst (λ d. IsEval c.args.schema.now c.args.txn.now (record c.args.self.now { work = c.step.new.self; done = d; scanned = 0 })) (sym least)
    (after_op c.args.schema.now c.args.txn.now c.args.self.now c.get-op.result.now _ c.step.new.self c.passes-passes.result c.requires.of c.requires.nothing
    (rest_at c.args.txn.now c.args.self.now.done c.get-op.result.now c.get-op.ensures) c.requires.more c.requires.ready c.if-not-step.ensures.leaves c.step.ensures.room c.passes-passes.ensures.passes)
