use Rattle.std.proofs.Common.{List, refl, sym, subst, ◌∙◌, arith}
use Rattle.std.specs.Prelude.{IfErr, OnOk}
use Rattle.rl_net.specs.declared.message.Message.{Message}
use Rattle.rl_nodes.specs.Handles.{handles}
use Rattle.rl_nodes.specs.World.{node_of}
use Rattle.rl_node.specs.SetupOf.{setup_of}
use Rattle.rl_world.specs.Finishing.{HasFinished, HasNotFinished}
use Rattle.rl_world.specs.Standing.{answers}
use Rattle.rl_world.proofs.Answering.{node_read, safe_read, safe_with, node_after}
use Rattle.rl_world.proofs.Receiving.{in_nodes, with_net, few_marked, count_marked, safe_marked, missed, to_node, reached, away}
use Rattle.rl_world.proofs.run.Run.deliver.Goals as goal

pub returns-in_err-push-clause-safe : goal.returns-in_err-push-clause-safe
returns-in_err-push-clause-safe c =
    safe_marked c.args.self.now c.args.number c.requires.safe c.deliver.follows.lender-at-none c.deliver.follows.holds-at-none
    (record c.args.self.now.told { net = c.deliver.follows.lender-at-none; lines = c.push.new.self }) refl refl

pub returns-in_default-clause-safe : goal.returns-in_default-clause-safe
returns-in_default-clause-safe c =
    safe_marked c.args.self.now c.args.number c.requires.safe c.deliver.follows.lender-at-none c.deliver.follows.holds-at-none
    (record c.args.self.now.told { net = c.deliver.follows.lender-at-none; lines = c.push.new.self }) refl refl

pub returns-in_default-clause-runs : goal.returns-in_default-clause-runs
returns-in_default-clause-runs c m st =
    missed c.args.self.now c.args.number c.requires.safe c.deliver.follows.lender-at-none c.deliver.follows.holds-at-none
    (record c.args.self.now.told { net = c.deliver.follows.lender-at-none; lines = c.push.new.self }) c.in_default.ensures.not_sent.1 refl refl refl
    c.in_ok-push.ensures.ok m.world st

pub overflow_sub-a : goal.overflow_sub-a
overflow_sub-a c =
    (to_node c.args.self.now c.args.number c.in-Ok.a c.in-Ok.bytes.now c.in-Ok.ensures.was_sent c.in-Ok.ensures.message c.requires.safe c.requires.amid
    c.messages_are_in_range.ensures.receivers).first

pub index_mut-node-requires : goal.index_mut-node-requires
index_mut-node-requires c =
    let r = c.args.self.now in
    let below = in_nodes r c.in-Ok.a c.requires.safe
    (to_node r c.args.number c.in-Ok.a c.in-Ok.bytes.now c.in-Ok.ensures.was_sent c.in-Ok.ensures.message c.requires.safe c.requires.amid
    c.messages_are_in_range.ensures.receivers) in
    let count = r.nodes.ok in
    omega (arith, below, count)

pub handle-answer-requires-clause-node : goal.handle-answer-requires-clause-node
handle-answer-requires-clause-node c =
    let r = c.args.self.now in
    let is = to_node r c.args.number c.in-Ok.a c.in-Ok.bytes.now c.in-Ok.ensures.was_sent c.in-Ok.ensures.message c.requires.safe c.requires.amid
    c.messages_are_in_range.ensures.receivers in
    safe_read r c.in-Ok.a c.index_mut-node.result.now is c.requires.safe c.index_mut-node.ensures.value

pub finish-requires-clause-few : goal.finish-requires-clause-few
finish-requires-clause-few c =
    few_marked c.args.self.now c.args.number c.requires.safe c.deliver.follows.lender-at-none c.deliver.follows.holds-at-none

pub finish-requires-clause-count : goal.finish-requires-clause-count
finish-requires-clause-count c =
    count_marked c.args.self.now c.args.number c.requires.safe c.deliver.follows.lender-at-none c.deliver.follows.holds-at-none

pub returns-then-is_up-clause-runs : goal.returns-then-is_up-clause-runs
returns-then-is_up-clause-runs c m st =
    let r = c.args.self.now in
    let setup = setup_of r.setup in
    let a = c.in-Ok.a in
    let ms = c.deliver.follows.lender-at-none in
    let is_marked = c.deliver.follows.holds-at-none in
    let is = to_node r c.args.number a c.in-Ok.bytes.now c.in-Ok.ensures.was_sent c.in-Ok.ensures.message c.requires.safe c.requires.amid
    c.messages_are_in_range.ensures.receivers in
    let x = answers (node_of setup m.world a) in
    let at = node_read r m.world a c.index_mut-node.result.now is st c.index_mut-node.ensures.value in
    reached r c.args.number a c.in-Ok.bytes.now c.in-Ok.ensures.was_sent c.in-Ok.ensures.message c.requires.safe is c.handle-answer.new.self m st
    c.messages_are_in_range.ensures.read_back c.gains_suffice.ensures c.as_slice.result.now c.as_slice.ensures c.finish.new.self c.handle-answer.result c.finish.result
    (sym (c.is_up.ensures.stands setup a x at) ∙ c.if-is_up.true)
    (c.handle-answer.ensures.done a x at) (c.handle-answer.ensures.refused a x at)
    (subst (λ (xs : List Message). OnOk c.finish.result (HasFinished (with_net r xs) c.finish.new.self c.args.number a c.handle-answer.result)) is_marked c.finish.ensures.ok)
    (subst (λ (xs : List Message). IfErr c.finish.result (HasNotFinished (with_net r xs) c.handle-answer.result)) is_marked c.finish.ensures.err)

pub returns-then-is_up-clause-safe : goal.returns-then-is_up-clause-safe
returns-then-is_up-clause-safe c =
    let r = c.args.self.now in
    let setup = setup_of r.setup in
    let is = to_node r c.args.number c.in-Ok.a c.in-Ok.bytes.now c.in-Ok.ensures.was_sent c.in-Ok.ensures.message c.requires.safe c.requires.amid
    c.messages_are_in_range.ensures.receivers in
    let was = safe_read r c.in-Ok.a c.index_mut-node.result.now is c.requires.safe c.index_mut-node.ensures.value in
    safe_with r c.in-Ok.a c.handle-answer.new.self c.finish.new.self c.requires.safe is
    (node_after setup was.0 c.handle-answer.new.self was.1 (handles setup was.0 was.1.node c.as_slice.result.now) c.handle-answer.result
    (c.handle-answer.ensures.done was.0 was.1 was.2) (c.handle-answer.ensures.refused was.0 was.1 was.2))
    c.finish.ensures.few c.finish.ensures.count

pub returns-else-is_up-clause-runs : goal.returns-else-is_up-clause-runs
returns-else-is_up-clause-runs c m st =
    let r = c.args.self.now in
    let setup = setup_of r.setup in
    let a = c.in-Ok.a in
    let is = to_node r c.args.number a c.in-Ok.bytes.now c.in-Ok.ensures.was_sent c.in-Ok.ensures.message c.requires.safe c.requires.amid
    c.messages_are_in_range.ensures.receivers in
    let at = node_read r m.world a c.index_mut-node.result.now is st c.index_mut-node.ensures.value in
    away r c.args.number a c.in-Ok.bytes.now c.in-Ok.ensures.was_sent c.in-Ok.ensures.message c.requires.safe is c.index_mut-node.result.now m st
    c.deliver.follows.lender-at-none c.deliver.follows.holds-at-none c.index_mut-node.ensures.value
    (sym (c.is_up.ensures.stands setup a (answers (node_of setup m.world a)) at) ∙ c.if-is_up.false)

pub returns-else-is_up-clause-safe : goal.returns-else-is_up-clause-safe
returns-else-is_up-clause-safe c =
    let r = c.args.self.now in
    let is = to_node r c.args.number c.in-Ok.a c.in-Ok.bytes.now c.in-Ok.ensures.was_sent c.in-Ok.ensures.message c.requires.safe c.requires.amid
    c.messages_are_in_range.ensures.receivers in
    safe_with r c.in-Ok.a c.index_mut-node.result.now (with_net r c.deliver.follows.lender-at-none) c.requires.safe is
    (safe_read r c.in-Ok.a c.index_mut-node.result.now is c.requires.safe c.index_mut-node.ensures.value)
    (few_marked r c.args.number c.requires.safe c.deliver.follows.lender-at-none c.deliver.follows.holds-at-none)
    (count_marked r c.args.number c.requires.safe c.deliver.follows.lender-at-none c.deliver.follows.holds-at-none)
