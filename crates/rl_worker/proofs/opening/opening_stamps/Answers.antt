use Rattle.std.proofs.Common.{rules, ◌≡◌, replicate, ◌∙◌}
use Rattle.rl_worker.proofs.Stamping.{none_stamped, item_more}
use Rattle.rl_worker.proofs.opening.opening_stamps.Goals as goal

pub loop-item-init : goal.loop-item-init
loop-item-init c =
    let zeros : c.in_ok-stamps.stamps.items ≡ replicate c.count.result 0 = search rules in
    zeros ∙ none_stamped c.args.layout.now c.count.result c.count.ensures.count

pub loop-item-preserved : goal.loop-item-preserved
loop-item-preserved c =
    item_more c.args.layout.now c.as_slice-item-items.result.now c.loop-item.item-index c.item-item.result c.loop-item.stamps.items c.stamp_writes.new.stamps.items
    c.loop-item-test.true c.item-item.is c.loop-item.invariant c.stamp_writes.ensures.count c.stamp_writes.ensures.stamps
