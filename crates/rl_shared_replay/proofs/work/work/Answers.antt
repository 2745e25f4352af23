use Rattle.std.proofs.Common.{◌≡◌, ◌∙◌, sym, subst}
use Rattle.rl_shared_replay.specs.Calls.{AllSettled}
use Rattle.rl_shared_replay.proofs.Items.{settled_more, items_next}
use Rattle.rl_shared_replay.proofs.work.work.Goals as goal

pub loop-item-preserved : goal.loop-item-preserved
loop-item-preserved g c =
    let i = c.loop-item.invariant in
    let done = c.settle_item.ensures in (
      done.table ∙ i.0,
      done.free,
      subst (AllSettled c.settle_item.new.seat.view) (sym (items_next c.args.records.now.made.sizes c.as_slice-item-items.result.now c.loop-item.item-index c.item-item.result c.loop-item-test.true c.item-item.is))
          (settled_more c.loop-item.seat.view c.settle_item.new.seat.view _ _ i.2 done.kept done.settled),
    )
