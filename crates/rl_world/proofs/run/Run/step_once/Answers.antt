use Rattle.std.proofs.Common.{◌≡◌, option_to_list, sym, subst, ◌∙◌}
use Rattle.std.specs.List.{flat_map}
use Rattle.std.specs.Prelude.{IfSome}
use Rattle.rl_election.specs.World.{is_up}
use Rattle.rl_nodes.specs.Nodes.{NodeState}
use Rattle.rl_nodes.specs.Works.{steps}
use Rattle.rl_nodes.specs.World.{World, node_of}
use Rattle.rl_node.specs.Moves.{line_of}
use Rattle.rl_node.specs.SetupOf.{setup_of}
use Rattle.rl_worker.specs.Told.{NamesRecord}
use Rattle.rl_world.specs.Reported.{line_reported}
use Rattle.rl_world.specs.Standing.{answers, StandsRun}
use Rattle.rl_world.proofs.Answering.{node_read, safe_read, safe_with, with_node, nothing_done, refused_at, up_answered}
use Rattle.rl_world.proofs.Stepped.{seq_left, stepped_at}
use Rattle.rl_world.proofs.run.Run.step_once.Goals as goal

pub step-requires-clause-node : goal.step-requires-clause-node
step-requires-clause-node c =
    safe_read c.args.self.now c.args.a c.index_mut-node.result.now c.requires.node c.requires.safe c.index_mut-node.ensures.value

pub step-requires-clause-next : goal.step-requires-clause-next
step-requires-clause-next c =
    seq_left c.seqs_are_few.ensures c.args.self.now 1 c.args.a c.index_mut-node.result.now c.requires.safe c.requires.room c.requires.node
    c.index_mut-node.ensures.value

pub step_line-requires-clause-names : goal.step_line-requires-clause-names
step_line-requires-clause-names c =
    let r = c.args.self.now in
    let was = safe_read r c.args.a c.index_mut-node.result.now c.requires.node c.requires.safe c.index_mut-node.ensures.value in
    subst (λ tables. IfSome c.in-Ok.stepped.moved (λ m. NamesRecord tables m.refused)) (sym c.schema.ensures)
    (c.in-Ok.ensures.told was.0 was.1 was.2).names

pub take_step-requires-clause-few : goal.take_step-requires-clause-few
take_step-requires-clause-few c = c.requires.safe.few

pub take_step-requires-clause-count : goal.take_step-requires-clause-count
take_step-requires-clause-count c = c.requires.safe.sent

pub finish-requires-clause-few : goal.finish-requires-clause-few
finish-requires-clause-few c = c.requires.safe.few

pub finish-requires-clause-count : goal.finish-requires-clause-count
finish-requires-clause-count c = c.requires.safe.sent

-- the step was made
pub returns-in_ok-line-in-Ok-clause-runs : goal.returns-in_ok-line-in-Ok-clause-runs
returns-in_ok-line-in-Ok-clause-runs c =
    let r = c.args.self.now in
    let setup = setup_of r.setup in
    let a = c.args.a in
    let s = c.args.worker in
    let at = λ (w : World) (st : StandsRun r w). node_read r w a c.index_mut-node.result.now c.requires.node st c.index_mut-node.ensures.value in
    let line_is =
    subst (λ tables. option_to_list c.in_ok-line-in-Ok.line ≡ flat_map (line_reported tables) (option_to_list (line_of s c.in-Ok.stepped))) c.schema.ensures
    c.in_ok-line-in-Ok.ensures.line in
    up_answered r a (with_node r a c.step.new.self c.take_step.new.self) (λ (x : NodeState). steps setup a x s) c.take_step.result
    (λ w st. sym (c.is_up.ensures.stands setup a (answers (node_of setup w a)) (at w st)) ∙ c.if-not-is_up.false)
    (λ w st.
    stepped_at r a c.step.new.self c.take_step.new.self s c.in-Ok.stepped c.in_ok-line-in-Ok.line c.requires.safe c.requires.node line_is
    c.in_ok-line-in-Ok.ensures.effect w st c.take_step.result
    (c.in-Ok.ensures.done a (answers (node_of setup w a)) (at w st))
    (c.in-Ok.ensures.told a (answers (node_of setup w a)) (at w st))
    c.take_step.ensures.taken c.take_step.ensures.refused)

pub returns-in_ok-line-in-Ok-clause-safe : goal.returns-in_ok-line-in-Ok-clause-safe
returns-in_ok-line-in-Ok-clause-safe c =
    let r = c.args.self.now in
    let setup = setup_of r.setup in
    let was = safe_read r c.args.a c.index_mut-node.result.now c.requires.node c.requires.safe c.index_mut-node.ensures.value in
    let does = c.in-Ok.ensures.done was.0 was.1 was.2 in
    safe_with r c.args.a c.step.new.self c.take_step.new.self c.requires.safe c.requires.node (was.0, does.new, does.stands)
    c.take_step.ensures.few c.take_step.ensures.count

-- there was no memory for the line
pub returns-in_err-line-in-Ok-clause-safe : goal.returns-in_err-line-in-Ok-clause-safe
returns-in_err-line-in-Ok-clause-safe c =
    let r = c.args.self.now in
    let setup = setup_of r.setup in
    let was = safe_read r c.args.a c.index_mut-node.result.now c.requires.node c.requires.safe c.index_mut-node.ensures.value in
    let does = c.in-Ok.ensures.done was.0 was.1 was.2 in
    safe_with r c.args.a c.step.new.self r.told c.requires.safe c.requires.node (was.0, does.new, does.stands)
    c.requires.safe.few c.requires.safe.sent

-- it was refused
pub returns-in-Err-clause-runs : goal.returns-in-Err-clause-runs
returns-in-Err-clause-runs c =
    let r = c.args.self.now in
    let setup = setup_of r.setup in
    let a = c.args.a in
    let s = c.args.worker in
    let due = λ (x : NodeState). steps setup a x s in
    let at = λ (w : World) (st : StandsRun r w). node_read r w a c.index_mut-node.result.now c.requires.node st c.index_mut-node.ensures.value in
    up_answered r a (with_node r a c.step.new.self c.finish.new.self) due c.finish.result
    (λ w st. sym (c.is_up.ensures.stands setup a (answers (node_of setup w a)) (at w st)) ∙ c.if-not-is_up.false)
    (λ w st.
    refused_at r a 0 c.step.new.self c.finish.new.self due c.requires.safe c.requires.node w st c.in-Err.e c.finish.result
    (c.in-Err.ensures.refused a (answers (node_of setup w a)) (at w st))
    c.finish.ensures.ok c.finish.ensures.err)

pub returns-in-Err-clause-safe : goal.returns-in-Err-clause-safe
returns-in-Err-clause-safe c =
    let r = c.args.self.now in
    let setup = setup_of r.setup in
    let was = safe_read r c.args.a c.index_mut-node.result.now c.requires.node c.requires.safe c.index_mut-node.ensures.value in
    let refuses = c.in-Err.ensures.refused was.0 was.1 was.2 in
    safe_with r c.args.a c.step.new.self c.finish.new.self c.requires.safe c.requires.node (was.0, refuses.new, refuses.stands)
    c.finish.ensures.few c.finish.ensures.count

-- the node is not up
pub returns-then-not-is_up-clause-runs : goal.returns-then-not-is_up-clause-runs
returns-then-not-is_up-clause-runs c w st =
    let r = c.args.self.now in
    let setup = setup_of r.setup in
    let at = node_read r w c.args.a c.index_mut-node.result.now c.requires.node st c.index_mut-node.ensures.value in
    nothing_done is_up r c.args.a c.index_mut-node.result.now (λ (x : NodeState). steps setup c.args.a x c.args.worker) w st c.index_mut-node.ensures.value
    (sym (c.is_up.ensures.stands setup c.args.a (answers (node_of setup w c.args.a)) at) ∙ c.if-not-is_up.true)

pub returns-then-not-is_up-clause-safe : goal.returns-then-not-is_up-clause-safe
returns-then-not-is_up-clause-safe c =
    let r = c.args.self.now in
    safe_with r c.args.a c.index_mut-node.result.now r.told c.requires.safe c.requires.node
    (safe_read r c.args.a c.index_mut-node.result.now c.requires.node c.requires.safe c.index_mut-node.ensures.value)
    c.requires.safe.few c.requires.safe.sent
