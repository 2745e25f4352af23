use Rattle.std.proofs.Common.{Bool, not, None, Ok, sym, ap, ◌∙◌}
use Rattle.rl_election.specs.World.{State}
use Rattle.rl_nodes.specs.Answers.{quiet}
use Rattle.rl_nodes.specs.Elections.{lost}
use Rattle.rl_nodes.specs.Events.{is_lost}
use Rattle.rl_nodes.specs.World.{node_of}
use Rattle.rl_node.specs.SetupOf.{setup_of}
use Rattle.rl_world.specs.Standing.{answers}
use Rattle.rl_world.proofs.Answering.{node_read, safe_read, safe_with, changes, nothing_done}
use Rattle.rl_world.proofs.run.Run.lose.Goals as goal

abbrev is_there : State → Bool
is_there state = not (is_lost state)

pub returns-clause-runs : goal.returns-clause-runs
returns-clause-runs c w st =
    let r = c.args.self.now in
    let setup = setup_of r.setup in
    let at = node_read r w c.args.a c.index_mut-node.result.now c.requires.node st c.index_mut-node.ensures.value in
    changes r c.args.a c.lose.new.self (lost setup) c.requires.safe c.requires.node is_there w st
    (ap not (sym (c.is_lost.ensures setup c.args.a (answers (node_of setup w c.args.a)) at) ∙ c.if-is_lost.false))
    (c.lose.ensures setup c.args.a (answers (node_of setup w c.args.a)) at)

pub returns-clause-safe : goal.returns-clause-safe
returns-clause-safe c =
    let r = c.args.self.now in
    let setup = setup_of r.setup in
    let was = safe_read r c.args.a c.index_mut-node.result.now c.requires.node c.requires.safe c.index_mut-node.ensures.value in
    safe_with r c.args.a c.lose.new.self r.told c.requires.safe c.requires.node
    (was.0, (record { node = lost setup was.1.node; failed = None }), c.lose.ensures setup was.0 was.1 was.2) c.requires.safe.few c.requires.safe.sent

pub returns-then-is_lost-clause-runs : goal.returns-then-is_lost-clause-runs
returns-then-is_lost-clause-runs c w st =
    let r = c.args.self.now in
    let setup = setup_of r.setup in
    let at = node_read r w c.args.a c.index_mut-node.result.now c.requires.node st c.index_mut-node.ensures.value in
    nothing_done is_there r c.args.a c.index_mut-node.result.now (λ x. Ok (quiet (lost setup x))) w st c.index_mut-node.ensures.value
    (ap not (sym (c.is_lost.ensures setup c.args.a (answers (node_of setup w c.args.a)) at) ∙ c.if-is_lost.true))

pub returns-then-is_lost-clause-safe : goal.returns-then-is_lost-clause-safe
returns-then-is_lost-clause-safe c =
    let r = c.args.self.now in
    safe_with r c.args.a c.index_mut-node.result.now r.told c.requires.safe c.requires.node
    (safe_read r c.args.a c.index_mut-node.result.now c.requires.node c.requires.safe c.index_mut-node.ensures.value)
    c.requires.safe.few c.requires.safe.sent
