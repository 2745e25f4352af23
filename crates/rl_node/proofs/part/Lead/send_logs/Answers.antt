use Rattle.std.proofs.Common.{◌≡◌, ◌+◌, ◌-◌, length, subst, sym, arith, get_or, ◌<◌}
use Rattle.rl_election.specs.World.{no_stream}
use Rattle.rl_msg.specs.Ranges.{LogInRange}
use Rattle.rl_node.specs.Outs.{Adds}
use Rattle.rl_node.specs.Recovering.{syncs_of}
use Rattle.rl_node.proofs.Items.{stream_is}
use Rattle.rl_node.proofs.Sends.{adds_none, flat_adds}
use Rattle.rl_node.proofs.part.Lead.send_logs.Goals as goal

pub send_initial_each-requires-clause-log : goal.send_initial_each-requires-clause-log
send_initial_each-requires-clause-log c =
    let lead = c.args.self.now in
    let i = c.loop-i.i in
    let stream : c.stream-item.result ≡ get_or lead.streams.items (i + 1 - 1) no_stream =
    subst (λ xs. c.stream-item.result ≡ get_or xs (i + 1 - 1) no_stream) c.deref-stream-items.ensures.value
    (stream_is c.deref-stream-items.result.now i c.stream-item.result no_stream c.loop-i-test.true c.stream-item.is) in
    let within : i < length lead.streams.items = subst (λ xs. i < length xs) c.deref-stream-items.ensures.value c.loop-i-test.true in
    let fits = c.requires.fits.each (i + 1) (omega arith, omega (arith, c.requires.fits.streams)) in
    subst (λ x. LogInRange x.log) (sym stream) fits.log.in_range

pub loop-i-init : goal.loop-i-init
loop-i-init c = adds_none c.new-sends.result

pub loop-i-preserved : goal.loop-i-preserved
loop-i-preserved c =
    let lead = c.args.self.now in
    let i = c.loop-i.i in
    let stream : c.stream-item.result ≡ get_or lead.streams.items (i + 1 - 1) no_stream =
    subst (λ xs. c.stream-item.result ≡ get_or xs (i + 1 - 1) no_stream) c.deref-stream-items.ensures.value
    (stream_is c.deref-stream-items.result.now i c.stream-item.result no_stream c.loop-i-test.true c.stream-item.is) in
    flat_adds (λ s. syncs_of c.args.id lead.epoch s (get_or lead.streams.items (s - 1) no_stream) c.args.setup.now.nodes) 1 i (i + 1)
    c.new-sends.result c.loop-i.sends c.send_initial_each.new.sends (omega arith) c.loop-i.invariant
    (subst (λ x. Adds c.loop-i.sends c.send_initial_each.new.sends (syncs_of c.args.id lead.epoch (i + 1) x c.args.setup.now.nodes)) stream
    c.in_ok-send_initial_each.ensures)
