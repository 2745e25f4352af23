use Rattle.std.proofs.Common.{Ok}
use Rattle.rl_msg.specs.declared.msg.Msg.TheVariants as msg
use Rattle.rl_nodes.specs.Handles.{takes_ack}
use Rattle.rl_node.specs.SetupOf.{setup_of}
use Rattle.rl_node.proofs.Acked.{ack_stream, ack_within_lead}
use Rattle.rl_node.proofs.Elections.{part_of}
use Rattle.rl_node.proofs.Good.{is_good}
use Rattle.rl_node.proofs.LeadersTurns.{works_as}
use Rattle.rl_node.proofs.node.Node.take_ack.Goals as goal

pub take_ack-requires-clause-part : goal.take_ack-requires-clause-part
take_ack-requires-clause-part c =
    let can = c.requires.can in
    (can.node.part, part_of (setup_of c.args.setup.now) can.number c.args.self.now can.node c.in-Up.field-0 c.in-Up.is can.stands)

pub take_ack-requires-clause-stream : goal.take_ack-requires-clause-stream
take_ack-requires-clause-stream c =
    let can = c.requires.can in
    let m = msg.Ack c.args.ack.from c.args.self.now.id c.args.epoch c.args.ack.stream c.args.ack.len in
    ack_stream (setup_of c.args.setup.now) can.number c.args.ack.from c.args.self.now.id c.args.epoch c.args.ack.stream c.args.ack.len can.node
    (is_good (setup_of c.args.setup.now) can.number can.node m can.good)

pub take_ack-requires-clause-within : goal.take_ack-requires-clause-within
take_ack-requires-clause-within c =
    let setup = setup_of c.args.setup.now in
    let can = c.requires.can in
    let m = msg.Ack c.args.ack.from c.args.self.now.id c.args.epoch c.args.ack.stream c.args.ack.len in
    ack_within_lead setup c.in-Up.field-0.part can.node.part c.args.epoch c.args.ack.stream c.args.ack.len
    (part_of setup can.number c.args.self.now can.node c.in-Up.field-0 c.in-Up.is can.stands)
    (is_good setup can.number can.node m can.good).untrue

pub returns-clause-tries : goal.returns-clause-tries
returns-clause-tries c = λ a x s good range.
    works_as (setup_of c.args.setup.now) a c.args.self.now x s c.requires.up c.in-Up.field-0 c.in-Up.is c.take_ack.new.self
    (λ k y. Ok (takes_ack (setup_of c.args.setup.now) k y c.args.epoch c.args.ack.stream c.args.ack.from c.args.ack.len y.part))
    c.take_ack.result c.take_ack.ensures
