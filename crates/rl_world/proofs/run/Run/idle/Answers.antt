use Rattle.std.proofs.Common.{sym, ◌∙◌}
use Rattle.rl_election.specs.World.{is_up}
use Rattle.rl_nodes.specs.Nodes.{NodeState}
use Rattle.rl_nodes.specs.Works.{idles}
use Rattle.rl_nodes.specs.World.{World, node_of}
use Rattle.rl_node.specs.SetupOf.{setup_of}
use Rattle.rl_world.specs.Standing.{answers, StandsRun}
use Rattle.rl_world.proofs.Answering.{node_read, safe_read, safe_with, with_node, nothing_done, answered, up_answered, node_after}
use Rattle.rl_world.proofs.Stepped.{seq_left}
use Rattle.rl_world.proofs.Working.{idles_plain}
use Rattle.rl_world.proofs.run.Run.idle.Goals as goal

pub idle-answer-requires-clause-node : goal.idle-answer-requires-clause-node
idle-answer-requires-clause-node c =
    safe_read c.args.self.now c.args.a c.index_mut-node.result.now c.requires.node c.requires.safe c.index_mut-node.ensures.value

pub idle-answer-requires-clause-next : goal.idle-answer-requires-clause-next
idle-answer-requires-clause-next c =
    seq_left c.seqs_are_few.ensures c.args.self.now 1 c.args.a c.index_mut-node.result.now c.requires.safe c.requires.room c.requires.node
    c.index_mut-node.ensures.value

pub finish-requires-clause-few : goal.finish-requires-clause-few
finish-requires-clause-few c = c.requires.safe.few

pub finish-requires-clause-count : goal.finish-requires-clause-count
finish-requires-clause-count c = c.requires.safe.sent

pub returns-then-is_up-clause-runs : goal.returns-then-is_up-clause-runs
returns-then-is_up-clause-runs c =
    let r = c.args.self.now in
    let setup = setup_of r.setup in
    let a = c.args.a in
    let s = c.args.worker in
    let due = λ (x : NodeState). idles setup a x s in
    let at = λ (w : World) (st : StandsRun r w). node_read r w a c.index_mut-node.result.now c.requires.node st c.index_mut-node.ensures.value in
    up_answered r a (with_node r a c.idle-answer.new.self c.finish.new.self) due c.finish.result
    (λ w st. sym (c.is_up.ensures.stands setup a (answers (node_of setup w a)) (at w st)) ∙ c.if-is_up.true)
    (answered r a 0 c.idle-answer.new.self c.finish.new.self due c.requires.safe c.requires.node (λ w st. idles_plain setup a (node_of setup w a) w s)
    c.idle-answer.result c.finish.result
    (λ w st. c.idle-answer.ensures.done a (answers (node_of setup w a)) (at w st))
    (λ w st. c.idle-answer.ensures.refused a (answers (node_of setup w a)) (at w st))
    c.finish.ensures.ok c.finish.ensures.err)

pub returns-then-is_up-clause-safe : goal.returns-then-is_up-clause-safe
returns-then-is_up-clause-safe c =
    let r = c.args.self.now in
    let setup = setup_of r.setup in
    let was = safe_read r c.args.a c.index_mut-node.result.now c.requires.node c.requires.safe c.index_mut-node.ensures.value in
    safe_with r c.args.a c.idle-answer.new.self c.finish.new.self c.requires.safe c.requires.node
    (node_after setup was.0 c.idle-answer.new.self was.1 (idles setup was.0 was.1.node c.args.worker) c.idle-answer.result
    (c.idle-answer.ensures.done was.0 was.1 was.2) (c.idle-answer.ensures.refused was.0 was.1 was.2))
    c.finish.ensures.few c.finish.ensures.count

pub returns-else-is_up-clause-runs : goal.returns-else-is_up-clause-runs
returns-else-is_up-clause-runs c w st =
    let r = c.args.self.now in
    let setup = setup_of r.setup in
    let at = node_read r w c.args.a c.index_mut-node.result.now c.requires.node st c.index_mut-node.ensures.value in
    nothing_done is_up r c.args.a c.index_mut-node.result.now (λ (x : NodeState). idles setup c.args.a x c.args.worker) w st c.index_mut-node.ensures.value
    (sym (c.is_up.ensures.stands setup c.args.a (answers (node_of setup w c.args.a)) at) ∙ c.if-is_up.false)

pub returns-else-is_up-clause-safe : goal.returns-else-is_up-clause-safe
returns-else-is_up-clause-safe c =
    let r = c.args.self.now in
    safe_with r c.args.a c.index_mut-node.result.now r.told c.requires.safe c.requires.node
    (safe_read r c.args.a c.index_mut-node.result.now c.requires.node c.requires.safe c.index_mut-node.ensures.value)
    c.requires.safe.few c.requires.safe.sent
