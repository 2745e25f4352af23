use Rattle.std.proofs.Common.{◌≡◌}
use Rattle.rl_nodes.specs.Works.{steps}
use Rattle.rl_node.specs.Moves.{out_of}
use Rattle.rl_node.specs.SetupOf.{setup_of}
use Rattle.rl_node.proofs.LeadersTurns.{out_err}
use Rattle.rl_node.proofs.Outer.{repeats_by, notes_done, notes_refused}
use Rattle.rl_node.proofs.node.Node.step.Goals as goal

pub returns-clause-done : goal.returns-clause-done
returns-clause-done c =
    let setup = setup_of c.args.setup.now in
    notes_done setup (λ a x. steps setup a x c.args.worker) c.args.self.now c.make_step-answer.new.self c.note_step.new.self
    (out_of c.make_step-answer.result)
    c.in_ok-check.ensures c.make_step-answer.ensures.tries c.note_step.ensures

pub returns-clause-refused : goal.returns-clause-refused
returns-clause-refused c =
    let setup = setup_of c.args.setup.now in
    notes_refused setup (λ a x. steps setup a x c.args.worker) c.args.self.now c.make_step-answer.new.self c.note_step.new.self
    (out_of c.make_step-answer.result)
    c.in_ok-check.ensures c.make_step-answer.ensures.tries c.note_step.ensures

pub returns-in_err-check-clause-refused : goal.returns-in_err-check-clause-refused
returns-in_err-check-clause-refused c =
    let setup = setup_of c.args.setup.now in
    repeats_by setup (λ a x. steps setup a x c.args.worker) c.args.self.now c.in_err-check.field-0.0 (out_of c.from_residual.result) c.in_err-check.ensures
    (out_err (λ e. e ≡ c.in_err-check.field-0.0) c.from_residual.result c.from_residual.ensures.1)
