use Rattle.std.proofs.Common.{◌∙◌, ap, sym, subst}
use Rattle.rl_worker.specs.Phases.{Rest}
use Rattle.rl_worker.specs.Attempts.{IsAct}
use Rattle.rl_worker.specs.Workers.{stage_phase, reading_phase}
use Rattle.rl_worker.proofs.Stages.{left_rest, left_same}
use Rattle.rl_worker.proofs.worker.Worker.load.Goals as goal

pub returns-then-is_some-clause-act : goal.returns-then-is_some-clause-act
returns-then-is_some-clause-act c = λ s w e.
    let q = c.args.self.now.index in
    subst (λ z. IsAct s w e z (Rest q) c.args.words.now c.args.words.now c.load-moved.result) (sym (ap (stage_phase c.args.schema.now q) c.in-Reading.is))
    (subst (λ z. IsAct s w e (reading_phase q c.in-Reading.reading) z c.args.words.now c.args.words.now c.load-moved.result)
    (left_rest q c.load-moved.new.self c.load-moved.result.refused (sym c.is_some.ensures ∙ c.if-is_some.true)) (c.load-moved.ensures.act s w e q))

pub returns-else-is_some-clause-act : goal.returns-else-is_some-clause-act
returns-else-is_some-clause-act c = λ s w e.
    let q = c.args.self.now.index in
    subst (λ z. IsAct s w e z (reading_phase q c.load-moved.new.self) c.args.words.now c.args.words.now c.load-moved.result) (sym (ap (stage_phase c.args.schema.now q) c.in-Reading.is))
    (subst (λ z. IsAct s w e (reading_phase q c.in-Reading.reading) z c.args.words.now c.args.words.now c.load-moved.result)
    (left_same q c.load-moved.new.self c.load-moved.result.refused (sym c.is_some.ensures ∙ c.if-is_some.false)) (c.load-moved.ensures.act s w e q))
