use Rattle.std.proofs.Common.{None, Ok, sym, subst, ◌∙◌}
use Rattle.rl_nodes.specs.Answers.{quiet}
use Rattle.rl_nodes.specs.Elections.{returned}
use Rattle.rl_nodes.specs.Events.{is_down}
use Rattle.rl_nodes.specs.World.{node_of}
use Rattle.rl_node.specs.SetupOf.{setup_of}
use Rattle.rl_node.specs.Standing.{IsNode}
use Rattle.rl_world.specs.Standing.{answers}
use Rattle.rl_world.proofs.Answering.{node_read, safe_read, safe_with, changes, nothing_done}
use Rattle.rl_world.proofs.run.Run.back.Goals as goal

pub returns-in_err-back-clause-safe : goal.returns-in_err-back-clause-safe
returns-in_err-back-clause-safe c =
    let r = c.args.self.now in
    let was = safe_read r c.args.a c.index_mut-node.result.now c.requires.node c.requires.safe c.index_mut-node.ensures.value in
    safe_with r c.args.a c.back.new.self r.told c.requires.safe c.requires.node
    (subst (IsNode (setup_of r.setup)) (sym c.in_err-back.ensures.err) was) c.requires.safe.few c.requires.safe.sent

pub returns-in_ok-back-clause-runs : goal.returns-in_ok-back-clause-runs
returns-in_ok-back-clause-runs c w st =
    let r = c.args.self.now in
    let setup = setup_of r.setup in
    let at = node_read r w c.args.a c.index_mut-node.result.now c.requires.node st c.index_mut-node.ensures.value in
    changes r c.args.a c.back.new.self returned c.requires.safe c.requires.node is_down w st
    (sym (c.is_down.ensures.stands setup c.args.a (answers (node_of setup w c.args.a)) at) ∙ c.if-is_down.true)
    (c.in_ok-back.ensures.ok c.args.a (answers (node_of setup w c.args.a)) at)

pub returns-in_ok-back-clause-safe : goal.returns-in_ok-back-clause-safe
returns-in_ok-back-clause-safe c =
    let r = c.args.self.now in
    let was = safe_read r c.args.a c.index_mut-node.result.now c.requires.node c.requires.safe c.index_mut-node.ensures.value in
    safe_with r c.args.a c.back.new.self r.told c.requires.safe c.requires.node
    (was.0, (record { node = returned was.1.node; failed = None }), c.in_ok-back.ensures.ok was.0 was.1 was.2) c.requires.safe.few c.requires.safe.sent

pub returns-else-is_down-clause-runs : goal.returns-else-is_down-clause-runs
returns-else-is_down-clause-runs c w st =
    let r = c.args.self.now in
    let setup = setup_of r.setup in
    let at = node_read r w c.args.a c.index_mut-node.result.now c.requires.node st c.index_mut-node.ensures.value in
    nothing_done is_down r c.args.a c.index_mut-node.result.now (λ x. Ok (quiet (returned x))) w st c.index_mut-node.ensures.value
    (sym (c.is_down.ensures.stands setup c.args.a (answers (node_of setup w c.args.a)) at) ∙ c.if-is_down.false)

pub returns-else-is_down-clause-safe : goal.returns-else-is_down-clause-safe
returns-else-is_down-clause-safe c =
    let r = c.args.self.now in
    safe_with r c.args.a c.index_mut-node.result.now r.told c.requires.safe c.requires.node
    (safe_read r c.args.a c.index_mut-node.result.now c.requires.node c.requires.safe c.index_mut-node.ensures.value)
    c.requires.safe.few c.requires.safe.sent
