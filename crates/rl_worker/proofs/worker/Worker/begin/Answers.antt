use Rattle.std.proofs.Common.{◌∙◌, sym}
use Rattle.rl_worker.proofs.Steps.{rests}
use Rattle.rl_worker.proofs.worker.Worker.begin.Goals as goal

pub returns-then-not-at_rest-clause-attempt : goal.returns-then-not-at_rest-clause-attempt
returns-then-not-at_rest-clause-attempt c =
    sym (rests c.args.schema.now c.args.self.now.index c.args.self.now.stage) ∙ sym (c.at_rest.ensures.rests c.args.schema.now) ∙ c.if-not-at_rest.true

pub start-requires-clause-rests : goal.start-requires-clause-rests
start-requires-clause-rests c =
    sym (rests c.args.schema.now c.args.self.now.index c.args.self.now.stage) ∙ sym (c.at_rest.ensures.rests c.args.schema.now) ∙ c.if-not-at_rest.false

pub returns-clause-rests : goal.returns-clause-rests
returns-clause-rests c = λ _.
    sym (rests c.args.schema.now c.args.self.now.index c.args.self.now.stage) ∙ sym (c.at_rest.ensures.rests c.args.schema.now) ∙ c.if-not-at_rest.false
