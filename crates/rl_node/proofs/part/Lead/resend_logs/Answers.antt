use Rattle.std.proofs.Common.{◌≡◌, ◌+◌, ◌-◌, length, subst, sym, arith, get_or, ◌<◌}
use Rattle.std.specs.List.{flat_map, range_with_len}
use Rattle.rl_election.specs.World.{no_stream}
use Rattle.rl_msg.specs.Ranges.{LogInRange}
use Rattle.rl_node.specs.Outs.{Adds}
use Rattle.rl_node.specs.Sending.{resends_of}
use Rattle.rl_node.proofs.Items.{stream_is}
use Rattle.rl_node.proofs.Sends.{adds_none, flat_adds}
use Rattle.rl_node.proofs.part.Lead.resend_logs.Goals as goal

pub send_stream_again-requires-clause-log : goal.send_stream_again-requires-clause-log
send_stream_again-requires-clause-log c =
    let lead = c.args.self.now in
    let i = c.loop-i.i in
    let stream : c.stream-item.result ≡ get_or lead.streams.items (i + 1 - 1) no_stream =
    subst (λ xs. c.stream-item.result ≡ get_or xs (i + 1 - 1) no_stream) c.deref-stream-items.ensures.value
    (stream_is c.deref-stream-items.result.now i c.stream-item.result no_stream c.loop-i-test.true c.stream-item.is) in
    let within : i < length lead.streams.items = subst (λ xs. i < length xs) c.deref-stream-items.ensures.value c.loop-i-test.true in
    let fits = c.requires.fits.each (i + 1) (omega arith, omega (arith, c.requires.fits.streams)) in
    subst (λ x. LogInRange x.log) (sym stream) fits.log.in_range

pub loop-i-init : goal.loop-i-init
loop-i-init c = adds_none c.args.sends.now

pub loop-i-preserved : goal.loop-i-preserved
loop-i-preserved c =
    let lead = c.args.self.now in
    let i = c.loop-i.i in
    let nodes = c.args.setup.now.nodes in
    let stream : c.stream-item.result ≡ get_or lead.streams.items (i + 1 - 1) no_stream =
    subst (λ xs. c.stream-item.result ≡ get_or xs (i + 1 - 1) no_stream) c.deref-stream-items.ensures.value
    (stream_is c.deref-stream-items.result.now i c.stream-item.result no_stream c.loop-i-test.true c.stream-item.is) in
    flat_adds (λ s. flat_map (resends_of c.args.id lead.epoch s (get_or lead.streams.items (s - 1) no_stream)) (range_with_len 1 nodes)) 1 i (i + 1)
    c.args.sends.now c.loop-i.sends c.send_stream_again.new.sends (omega arith) c.loop-i.invariant
    (subst (λ x. Adds c.loop-i.sends c.send_stream_again.new.sends (flat_map (resends_of c.args.id lead.epoch (i + 1) x) (range_with_len 1 nodes))) stream
    c.in_ok-send_stream_again.ensures)
