use Rattle.std.proofs.Common.{◌+◌, ◌-◌, sym, ◌∙◌, arith}
use Rattle.rl_events.specs.Expanded.{drawn_event}
use Rattle.rl_events.proofs.Draws.{none_left, one_drawn}
use Rattle.rl_events.proofs.expand.push_drawn.Goals as goal

pub draws-preserved : goal.draws-preserved
draws-preserved g c =
    one_drawn (drawn_event c.args.nodes c.args.workers) c.draws.events c.push.new.self c.drawn_event.result (c.args.count - c.draws.draw) (c.args.count - (c.draws.draw + 1)) c.next_u32.result _ _
    c.next_u32.ensures c.drawn_event.ensures c.in_ok-push.ensures.ok (omega arith)
    ∙ c.draws.invariant

pub returns : goal.returns
returns g c =
    sym (none_left (drawn_event c.args.nodes c.args.workers) c.draws.events (c.args.count - c.draws.draw) (g.R.Rng.stream c.draws.rng) (omega arith)) ∙ c.draws.invariant
