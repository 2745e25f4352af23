use Rattle.std.proofs.Common.{None, Ok, sym, ◌∙◌}
use Rattle.rl_nodes.specs.Answers.{quiet}
use Rattle.rl_nodes.specs.Elections.{crashed}
use Rattle.rl_election.specs.World.{is_up}
use Rattle.rl_nodes.specs.World.{node_of}
use Rattle.rl_node.specs.SetupOf.{setup_of}
use Rattle.rl_world.specs.Standing.{answers}
use Rattle.rl_world.proofs.Answering.{node_read, safe_read, safe_with, changes, nothing_done}
use Rattle.rl_world.proofs.run.Run.crash.Goals as goal

pub returns-then-is_up-clause-runs : goal.returns-then-is_up-clause-runs
returns-then-is_up-clause-runs c w st =
    let r = c.args.self.now in
    let setup = setup_of r.setup in
    let at = node_read r w c.args.a c.index_mut-node.result.now c.requires.node st c.index_mut-node.ensures.value in
    changes r c.args.a c.crash.new.self (crashed setup) c.requires.safe c.requires.node is_up w st
    (sym (c.is_up.ensures.stands setup c.args.a (answers (node_of setup w c.args.a)) at) ∙ c.if-is_up.true)
    (c.crash.ensures.up (sym c.is_up.ensures.up ∙ c.if-is_up.true) setup c.args.a (answers (node_of setup w c.args.a)) at)

pub returns-then-is_up-clause-safe : goal.returns-then-is_up-clause-safe
returns-then-is_up-clause-safe c =
    let r = c.args.self.now in
    let setup = setup_of r.setup in
    let was = safe_read r c.args.a c.index_mut-node.result.now c.requires.node c.requires.safe c.index_mut-node.ensures.value in
    safe_with r c.args.a c.crash.new.self r.told c.requires.safe c.requires.node
    (was.0, (record { node = crashed setup was.1.node; failed = None }), c.crash.ensures.up (sym c.is_up.ensures.up ∙ c.if-is_up.true) setup was.0 was.1 was.2)
    c.requires.safe.few c.requires.safe.sent

pub returns-else-is_up-clause-runs : goal.returns-else-is_up-clause-runs
returns-else-is_up-clause-runs c w st =
    let r = c.args.self.now in
    let setup = setup_of r.setup in
    let at = node_read r w c.args.a c.index_mut-node.result.now c.requires.node st c.index_mut-node.ensures.value in
    nothing_done is_up r c.args.a c.index_mut-node.result.now (λ x. Ok (quiet (crashed setup x))) w st c.index_mut-node.ensures.value
    (sym (c.is_up.ensures.stands setup c.args.a (answers (node_of setup w c.args.a)) at) ∙ c.if-is_up.false)

pub returns-else-is_up-clause-safe : goal.returns-else-is_up-clause-safe
returns-else-is_up-clause-safe c =
    let r = c.args.self.now in
    safe_with r c.args.a c.index_mut-node.result.now r.told c.requires.safe c.requires.node
    (safe_read r c.args.a c.index_mut-node.result.now c.requires.node c.requires.safe c.index_mut-node.ensures.value)
    c.requires.safe.few c.requires.safe.sent
