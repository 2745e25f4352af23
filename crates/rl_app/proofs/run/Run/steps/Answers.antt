use Rattle.std.proofs.Common.{◌≡◌, subst, sym, replicate, arith}
use Rattle.rl_worker.specs.Acts.{Step, after_turns}
use Rattle.rl_worker.specs.Opening.{setting_of}
use Rattle.rl_app.specs.Running.{IsRun}
use Rattle.rl_app.proofs.Followed.{one_more}
use Rattle.rl_app.proofs.run.Run.steps.Goals as goal

pub step-requires-clause-run : goal.step-requires-clause-run
step-requires-clause-run c = (after_turns (setting_of c.args.schema.now c.args.lists.now 1) c.requires.run.0 (replicate c.loop-step._step (Step c.args.worker)), c.loop-step.invariant c.requires.run.0 c.requires.run.1)

pub loop-step-preserved : goal.loop-step-preserved
loop-step-preserved c = λ core is.
    let s = setting_of c.args.schema.now c.args.lists.now 1 in
    subst (IsRun c.args.schema.now c.args.lists.now c.step.new.self) (sym (one_more s core c.loop-step._step (Step c.args.worker)))
    (c.in_ok-step.ensures (after_turns s core (replicate c.loop-step._step (Step c.args.worker))) (c.loop-step.invariant core is))

pub returns : goal.returns
returns c = λ core is.
    let n : c.loop-step._step ≡ c.args.count = omega (arith, c.loop-step-test.false, c.loop-step.auto._step-end) in
    subst (λ k. IsRun c.args.schema.now c.args.lists.now c.loop-step.self (after_turns (setting_of c.args.schema.now c.args.lists.now 1) core (replicate k (Step c.args.worker)))) n (c.loop-step.invariant core is)
