use Rattle.std.proofs.Common.{◌+◌, arith}
use Rattle.rl_node.specs.Sending.{resends_of}
use Rattle.rl_node.proofs.Sends.{adds_none, flat_adds}
use Rattle.rl_node.proofs.electing.send_stream_again.Goals as goal

pub loop-before-init : goal.loop-before-init
loop-before-init c = adds_none c.args.sends.now

pub loop-before-preserved : goal.loop-before-preserved
loop-before-preserved c =
    let from = c.args.from in
    flat_adds (resends_of from.node from.epoch from.stream c.args.stream.now) 1 c.loop-before.before (c.loop-before.before + 1)
    c.args.sends.now c.loop-before.sends c.send_again.new.sends (omega arith) c.loop-before.invariant c.in_ok-send_again.ensures
