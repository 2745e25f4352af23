use Rattle.std.proofs.Common.{sym, ◌∙◌}
use Rattle.rl_nodes.specs.Elections.{elects}
use Rattle.rl_election.specs.World.{is_up}
use Rattle.rl_nodes.specs.World.{World, node_of}
use Rattle.rl_node.specs.SetupOf.{setup_of}
use Rattle.rl_world.specs.Standing.{answers, StandsRun}
use Rattle.rl_world.proofs.Answering.{node_read, safe_read, safe_with, with_node, nothing_done, answered, up_answered, election_plain, node_after}
use Rattle.rl_world.proofs.run.Run.elect.Goals as goal

pub elect-answer-requires-clause-node : goal.elect-answer-requires-clause-node
elect-answer-requires-clause-node c =
    safe_read c.args.self.now c.args.a c.index_mut-node.result.now c.requires.node c.requires.safe c.index_mut-node.ensures.value

pub finish-requires-clause-few : goal.finish-requires-clause-few
finish-requires-clause-few c = c.requires.safe.few

pub finish-requires-clause-count : goal.finish-requires-clause-count
finish-requires-clause-count c = c.requires.safe.sent

pub returns-then-is_up-clause-runs : goal.returns-then-is_up-clause-runs
returns-then-is_up-clause-runs c =
    let r = c.args.self.now in
    let setup = setup_of r.setup in
    let a = c.args.a in
    let at = λ (w : World) (st : StandsRun r w). node_read r w a c.index_mut-node.result.now c.requires.node st c.index_mut-node.ensures.value in
    up_answered r a (with_node r a c.elect-answer.new.self c.finish.new.self) (elects setup a) c.finish.result
    (λ w st. sym (c.is_up.ensures.stands setup a (answers (node_of setup w a)) (at w st)) ∙ c.if-is_up.true)
    (answered r a 0 c.elect-answer.new.self c.finish.new.self (elects setup a) c.requires.safe c.requires.node (λ w st. election_plain setup a (node_of setup w a) w)
    c.elect-answer.result c.finish.result
    (λ w st. c.elect-answer.ensures.done a (answers (node_of setup w a)) (at w st))
    (λ w st. c.elect-answer.ensures.refused a (answers (node_of setup w a)) (at w st))
    c.finish.ensures.ok c.finish.ensures.err)

pub returns-then-is_up-clause-safe : goal.returns-then-is_up-clause-safe
returns-then-is_up-clause-safe c =
    let r = c.args.self.now in
    let setup = setup_of r.setup in
    let was = safe_read r c.args.a c.index_mut-node.result.now c.requires.node c.requires.safe c.index_mut-node.ensures.value in
    safe_with r c.args.a c.elect-answer.new.self c.finish.new.self c.requires.safe c.requires.node
    (node_after setup was.0 c.elect-answer.new.self was.1 (elects setup was.0 was.1.node) c.elect-answer.result
    (c.elect-answer.ensures.done was.0 was.1 was.2) (c.elect-answer.ensures.refused was.0 was.1 was.2))
    c.finish.ensures.few c.finish.ensures.count

pub returns-else-is_up-clause-runs : goal.returns-else-is_up-clause-runs
returns-else-is_up-clause-runs c w st =
    let r = c.args.self.now in
    let setup = setup_of r.setup in
    let at = node_read r w c.args.a c.index_mut-node.result.now c.requires.node st c.index_mut-node.ensures.value in
    nothing_done is_up r c.args.a c.index_mut-node.result.now (elects setup c.args.a) w st c.index_mut-node.ensures.value
    (sym (c.is_up.ensures.stands setup c.args.a (answers (node_of setup w c.args.a)) at) ∙ c.if-is_up.false)

pub returns-else-is_up-clause-safe : goal.returns-else-is_up-clause-safe
returns-else-is_up-clause-safe c =
    let r = c.args.self.now in
    safe_with r c.args.a c.index_mut-node.result.now r.told c.requires.safe c.requires.node
    (safe_read r c.args.a c.index_mut-node.result.now c.requires.node c.requires.safe c.index_mut-node.ensures.value)
    c.requires.safe.few c.requires.safe.sent
