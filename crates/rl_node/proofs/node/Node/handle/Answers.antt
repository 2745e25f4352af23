use Rattle.rl_nodes.specs.Handles.{handles}
use Rattle.rl_node.specs.SetupOf.{setup_of}
use Rattle.rl_node.proofs.Outer.{repeats_by, notes_done, notes_refused}
use Rattle.rl_node.proofs.Receiving.{is_well}
use Rattle.rl_node.proofs.node.Node.handle.Goals as goal

pub returns-in_err-check-clause-refused : goal.returns-in_err-check-clause-refused
returns-in_err-check-clause-refused c =
    let setup = setup_of c.args.setup.now in
    repeats_by setup (λ a x. handles setup a x c.args.bytes.now) c.args.self.now c.in_err-check.field-0.0 c.from_residual.result c.in_err-check.ensures c.from_residual.ensures.1

pub receive-answer-requires-clause-node : goal.receive-answer-requires-clause-node
receive-answer-requires-clause-node c = is_well (setup_of c.args.setup.now) c.args.self.now c.requires.node c.in_ok-check.ensures

pub returns-clause-done : goal.returns-clause-done
returns-clause-done c =
    let setup = setup_of c.args.setup.now in
    notes_done setup (λ a x. handles setup a x c.args.bytes.now) c.args.self.now c.receive-answer.new.self c.note.new.self c.receive-answer.result
    c.in_ok-check.ensures c.receive-answer.ensures.tries c.note.ensures

pub returns-clause-refused : goal.returns-clause-refused
returns-clause-refused c =
    let setup = setup_of c.args.setup.now in
    notes_refused setup (λ a x. handles setup a x c.args.bytes.now) c.args.self.now c.receive-answer.new.self c.note.new.self c.receive-answer.result
    c.in_ok-check.ensures c.receive-answer.ensures.tries c.note.ensures
