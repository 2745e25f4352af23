use Rattle.std.proofs.Common.{subst, All}
use Rattle.std.proofs.lemmas.List.{take_all}
use Rattle.std.proofs.lemmas.List.Elements.{All-more}
use Rattle.rl_batch.specs.Encoding.{item_bytes}
use Rattle.rl_batch.specs.Ranges.{ItemHasWords}
use Rattle.rl_fields.proofs.Appends.{appended_more}
use Rattle.rl_batch.proofs.item.push_items.Goals as goal

pub loop-item-preserved : goal.loop-item-preserved
loop-item-preserved c = (
  appended_more item_bytes c.args.items.now c.loop-item.item-index c.item-item.result c.push_u8-2.new.out c.loop-item.out c.push_item.new.out c.loop-item-test.true c.item-item.is c.loop-item.invariant.0 c.in_ok-push_item.ensures.encoded,
  All-more ItemHasWords c.args.items.now c.loop-item.item-index c.item-item.result c.loop-item-test.true c.loop-item.invariant.1 (subst ItemHasWords c.item-item.is c.in_ok-push_item.ensures.words),
)

pub returns-clause-words : goal.returns-clause-words
returns-clause-words c = subst (All ItemHasWords) (take_all c.loop-item.item-index c.args.items.now c.loop-item-test.false) c.loop-item.invariant.1
