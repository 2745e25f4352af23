use Rattle.rl_live.proofs.Adopting.{led_more}
use Rattle.std.proofs.Common.{◌∙◌}
use Rattle.rl_live.proofs.election.sync_one.Goals as goal

pub returns-then-not-lost : goal.returns-then-not-lost
returns-then-not-lost g c =
    led_more c.args.epoch c.args.number c.loop.led c.args.led.now c.loop.acceptor c.sync.new.self c.in_ok-log.log c.in-Ok.len c.ack.new.self c.push.new.self
    c.loop.invariant.2 c.loop.invariant.3 (c.in_ok-log.ensures ∙ c.log.ensures.kept) c.in-Ok.ensures.ok c.in-Ok.ensures.len c.ack.ensures.counted c.in_ok-push.ensures.ok
