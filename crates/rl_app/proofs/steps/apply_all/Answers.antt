use Rattle.std.proofs.Common.{◌≡◌, ◌<◌, ◌∙◌, ap, sym, length, get_or}
use Rattle.rl_txn.specs.Serial.{after_writes}
use Rattle.rl_app.proofs.Reported.{after_more}
use Rattle.rl_app.proofs.steps.apply_all.Goals as goal

pub loop-item-preserved : goal.loop-item-preserved
loop-item-preserved c =
    let items = c.args.items.now in
    let x = c.item-item.result in
    let l : c.loop-item.item-index < length items = rw (← c.as_slice-item-items.ensures) c.loop-item-test.true in
    let is : x ≡ get_or items c.loop-item.item-index x = rw (← c.as_slice-item-items.ensures) c.item-item.is in
    c.in_ok-apply.ensures.ok ∙ ap (λ rows. after_writes rows x.writes) c.loop-item.invariant ∙ sym (after_more c.args.rows.now items c.loop-item.item-index x l is)
