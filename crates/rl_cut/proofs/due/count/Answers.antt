use Rattle.std.proofs.Common.{◌≡◌, ◌++◌, sym, ap, ◌∙◌}
use Rattle.std.specs.List.{filter, flat_map}
use Rattle.rl_families.specs.Logs.{items_along}
use Rattle.rl_families.specs.Order.{in_order}
use Rattle.rl_cut.specs.Kept.{counts_now}
use Rattle.rl_cut.proofs.Growing.{keeps_now, keeps_same, now_grown, same_pair}
use Rattle.rl_cut.proofs.due.count.Goals as goal

pub advance-requires-clause-counted : goal.advance-requires-clause-counted
advance-requires-clause-counted c = now_grown c.args.logs.now c.args.reached.now c.args.settled.now.items c.args.counted.now.items c.args.mark.now c.mark_of-now.result c.args.history.now c.requires c.mark_of-now.ensures

pub returns-clause-kept : goal.returns-clause-kept
returns-clause-kept c =
    let logs = c.args.logs.now in
    let mark = c.args.mark.now in
    let now = c.mark_of-now.result in
    let due = c.in_ok-due.ensures ∙ ap (λ z. in_order (filter (λ x. counts_now mark now z x.stamp) (flat_map items_along logs))) c.deref.ensures.value in
    keeps_now logs c.args.reached.now c.args.settled.now.items c.settle.new.settled.items c.args.counted.now.items mark now c.args.history.now c.requires c.mark_of-now.ensures c.in_ok-settle.ensures.settled
    c.advance.new.counted.items c.append_items.new.history c.advance.ensures.places c.advance.ensures.counted (c.in_ok-append_items.ensures.ok ∙ ap (λ z. c.args.history.now ++ z) due)

pub returns-then-eq-clause-kept : goal.returns-then-eq-clause-kept
returns-then-eq-clause-kept c =
    let same : c.mark_of-now.result ≡ c.args.mark.now = same_pair c.mark_of-now.result c.args.mark.now (sym c.eq.ensures ∙ c.if-eq.true) in
    keeps_same c.args.logs.now c.args.reached.now c.args.settled.now.items c.args.counted.now.items c.args.mark.now c.args.history.now c.requires (sym same ∙ c.mark_of-now.ensures)
