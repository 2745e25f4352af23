use Rattle.std.proofs.Common.{Ok, sym, ◌∙◌}
use Rattle.rl_election.specs.World.{is_up}
use Rattle.rl_nodes.specs.Answers.{quiet}
use Rattle.rl_nodes.specs.Views.{plays}
use Rattle.rl_nodes.specs.World.{node_of}
use Rattle.rl_node.specs.SetupOf.{setup_of}
use Rattle.rl_world.specs.Standing.{answers}
use Rattle.rl_world.proofs.Answering.{node_read, safe_read, safe_with, changes, nothing_done}
use Rattle.rl_world.proofs.Playing.{played_node}
use Rattle.rl_world.proofs.run.Run.play.Goals as goal

pub play-requires-clause-node : goal.play-requires-clause-node
play-requires-clause-node c =
    safe_read c.args.self.now c.args.a c.index_mut-node.result.now c.requires.node c.requires.safe c.index_mut-node.ensures.value

pub returns-in-Ok-clause-runs : goal.returns-in-Ok-clause-runs
returns-in-Ok-clause-runs c w st =
    let r = c.args.self.now in
    let setup = setup_of r.setup in
    let a = c.args.a in
    let s = c.args.stream in
    let x = node_of setup w a in
    let at = node_read r w a c.index_mut-node.result.now c.requires.node st c.index_mut-node.ensures.value in
    changes r a c.play.new.self (λ y. plays setup y s) c.requires.safe c.requires.node is_up w st
    (sym (c.is_up.ensures.stands setup a (answers x) at) ∙ c.if-is_up.true)
    (played_node setup a c.play.new.self x s c.in-Ok.field-0 (c.in-Ok.ensures.done a (answers x) at))

pub returns-in-Ok-clause-safe : goal.returns-in-Ok-clause-safe
returns-in-Ok-clause-safe c =
    let r = c.args.self.now in
    let was = safe_read r c.args.a c.index_mut-node.result.now c.requires.node c.requires.safe c.index_mut-node.ensures.value in
    let h = c.in-Ok.ensures.done was.0 was.1 was.2 in
    safe_with r c.args.a c.play.new.self r.told c.requires.safe c.requires.node (was.0, h.new, h.stands) c.requires.safe.few c.requires.safe.sent

pub returns-in-Err-clause-runs : goal.returns-in-Err-clause-runs
returns-in-Err-clause-runs c w st = tt

pub returns-in-Err-clause-safe : goal.returns-in-Err-clause-safe
returns-in-Err-clause-safe c =
    let r = c.args.self.now in
    let was = safe_read r c.args.a c.index_mut-node.result.now c.requires.node c.requires.safe c.index_mut-node.ensures.value in
    let h = c.in-Err.ensures.refused was.0 was.1 was.2 in
    safe_with r c.args.a c.play.new.self r.told c.requires.safe c.requires.node (was.0, h.new, h.stands) c.requires.safe.few c.requires.safe.sent

pub returns-else-is_up-clause-runs : goal.returns-else-is_up-clause-runs
returns-else-is_up-clause-runs c w st =
    let r = c.args.self.now in
    let setup = setup_of r.setup in
    let at = node_read r w c.args.a c.index_mut-node.result.now c.requires.node st c.index_mut-node.ensures.value in
    nothing_done is_up r c.args.a c.index_mut-node.result.now (λ x. Ok (quiet (plays setup x c.args.stream))) w st c.index_mut-node.ensures.value
    (sym (c.is_up.ensures.stands setup c.args.a (answers (node_of setup w c.args.a)) at) ∙ c.if-is_up.false)

pub returns-else-is_up-clause-safe : goal.returns-else-is_up-clause-safe
returns-else-is_up-clause-safe c =
    let r = c.args.self.now in
    safe_with r c.args.a c.index_mut-node.result.now r.told c.requires.safe c.requires.node
    (safe_read r c.args.a c.index_mut-node.result.now c.requires.node c.requires.safe c.index_mut-node.ensures.value)
    c.requires.safe.few c.requires.safe.sent
