use Rattle.std.proofs.Common.{take, map, sym, ap, ◌∙◌}
use Rattle.rl_txn.specs.declared.item.Item.{Item}
use Rattle.rl_cut.specs.Lasts.{noted, all_noted}
use Rattle.rl_cut.proofs.Folds.{stamps_more}
use Rattle.rl_cut.proofs.Noting.{noted_append}
use Rattle.rl_cut.proofs.lasts.note_items.Goals as goal

pub returns-in_err-note-clause-back : goal.returns-in_err-note-clause-back
returns-in_err-note-clause-back c = λ t b h. c.note.ensures.back t b (c.loop-item.invariant.back t b h)

pub loop-item-preserved : goal.loop-item-preserved
loop-item-preserved c =
    let items = c.args.items.now in
    let i = c.loop-item.item-index in
    let s = c.item-item.result.stamp in
    let more = stamps_more items i c.item-item.result c.loop-item-test.true c.item-item.is in
    record {
      noted = c.in_ok-note.ensures.ok ∙ ap (λ z. noted z s) c.loop-item.invariant.noted ∙ sym (noted_append c.args.lasts.now (map (λ (x : Item). x.stamp) (take i items)) s) ∙ ap (all_noted c.args.lasts.now) (sym more);
      back = λ t b h. c.note.ensures.back t b (c.loop-item.invariant.back t b h);
    }
