use Rattle.std.proofs.Common.{map, sym, subst}
use Rattle.rl_msg.specs.Ranges.{HeadInRange, StreamsInRange}
use Rattle.rl_paxos.specs.Acceptors.{Kept, Acceptor}
use Rattle.rl_node.proofs.Promises.{streams_in_range}
use Rattle.rl_msg.specs.declared.msg.Msg.TheVariants.{Prepare}
use Rattle.rl_nodes.specs.Handles.{takes}
use Rattle.rl_node.proofs.Answering.{prepare_answers, prepare_runs_out}
use Rattle.rl_node.proofs.Taking.{refuses_it, prepare_denied}
use Rattle.rl_node.proofs.node.Node.take_prepare.Goals as goal

pub send_promise-requires-clause-range : goal.send_promise-requires-clause-range
send_promise-requires-clause-range c =
    let can = c.requires.can in
    let r = can.in_range in
    subst (λ (acc : Acceptor). HeadInRange c.args.self.now.id c.args.from c.args.epoch
    × StreamsInRange (map (λ (k : Kept). k.ballot) acc.streams) (map (λ (k : Kept). k.log) acc.streams)) (sym c.in-Ok.ensures.ok) (
      record { from_low = r.to_low; from_high = r.to_high; to_low = r.from_low; to_high = r.from_high; epoch_low = r.epoch_low; epoch_high = r.epoch_high },
      streams_in_range can.setup can.fits c.args.self.now.acceptor can.stands.acceptor,
    )

pub returns-in_err-send_promise-in-Ok-clause-tries : goal.returns-in_err-send_promise-in-Ok-clause-tries
returns-in_err-send_promise-in-Ok-clause-tries c = λ setup a x fits s good r.
    prepare_runs_out setup a c.args.self.now x s c.requires.up c.args.from c.args.epoch r
    c.prepare.new.self c.in-Ok.ensures.ok c.in-Ok.ensures.allowed c.from_residual.result c.from_residual.ensures.1

pub returns-in_ok-send_promise-in-Ok-clause-tries : goal.returns-in_ok-send_promise-in-Ok-clause-tries
returns-in_ok-send_promise-in-Ok-clause-tries c = λ setup a x fits s good r.
    prepare_answers setup a c.args.self.now x s c.requires.up c.args.from c.args.epoch r
    c.prepare.new.self c.in-Ok.ensures.ok c.in-Ok.ensures.allowed c.in_ok-send_promise-in-Ok.field-0 c.in_ok-send_promise-in-Ok.ensures

pub returns-in-Err-clause-tries : goal.returns-in-Err-clause-tries
returns-in-Err-clause-tries c = λ setup a x fits s good r.
    refuses_it setup a c.args.self.now x s c.requires.up c.in-Err.refused c.denying.result c.denying.ensures
    (takes setup a x (Prepare c.args.from c.args.self.now.id c.args.epoch))
    (prepare_denied setup a c.args.self.now x s c.requires.up c.args.from c.args.self.now.id c.args.epoch c.in-Err.refused c.in-Err.ensures.refused)
    c.prepare.new.self c.in-Err.ensures.err
