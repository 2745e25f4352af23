use Rattle.std.proofs.Common.{◌∙◌, sym, refl, true, false}
use Rattle.rl_worker.specs.declared.worker.Stage.TheVariants as stage
use Rattle.rl_worker.specs.Phases.{Setting}
use Rattle.rl_worker.specs.Attempts.{IsAct}
use Rattle.rl_worker.specs.Workers.{commit_phase}
use Rattle.rl_worker.proofs.Stages.{committed, no_setting}
use Rattle.rl_worker.proofs.worker.Worker.commit_on.Goals as goal

pub returns-then-is_over-clause-act : goal.returns-then-is_over-clause-act
returns-then-is_over-clause-act c =
    committed c.args.schema.now c.args.self.now c.end.new.self c.args.words.now c.act-moved.new.words c.in-Committing.commit c.act-moved.new.self c.decide.new.self c.act-moved.result c.end.result true
    c.in-Committing.is c.requires.commits c.act-moved.ensures.act c.act-moved.ensures.attempt c.act-moved.ensures.fits c.decide.ensures (sym c.is_over.ensures ∙ c.if-is_over.true)
    (c.end.ensures c.decide.new.self refl).0 (c.end.ensures c.decide.new.self refl).1

pub returns-else-is_over-clause-act : goal.returns-else-is_over-clause-act
returns-else-is_over-clause-act c =
    let act : (s : Setting) → IsAct s c.in-Committing.commit.item.worker c.in-Committing.commit.item.stamp.epoch (commit_phase c.args.schema.now c.in-Committing.commit) (commit_phase c.args.schema.now c.act-moved.new.self) c.args.words.now c.act-moved.new.words c.act-moved.result = c.act-moved.ensures.act in
    committed c.args.schema.now c.args.self.now (record c.args.self.now { stage = stage.Committing c.decide.new.self }) c.args.words.now c.act-moved.new.words c.in-Committing.commit c.act-moved.new.self c.decide.new.self c.act-moved.result c.act-moved.result.ended false
    c.in-Committing.is c.requires.commits act c.act-moved.ensures.attempt c.act-moved.ensures.fits c.decide.ensures (sym c.is_over.ensures ∙ c.if-is_over.false)
    refl (act no_setting).ended
