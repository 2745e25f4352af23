use Rattle.std.proofs.Common.{sym, refl, subst, ◌∙◌, All, true≢false}
use Rattle.std.proofs.lemmas.List.{take_all}
use Rattle.std.proofs.lemmas.List.Elements.{All-more}
use Rattle.rl_txn.specs.declared.item.Item.{Item}
use Rattle.rl_replay.specs.Replay.{HasStamp}
use Rattle.rl_replay.proofs.replica.are_among.Goals as goal

pub returns-then-not-stands_among : goal.returns-then-not-stands_among
returns-then-not-stands_among c = (
  λ t. absurd (true≢false (sym t)),
  λ all. absurd (true≢false (sym (c.stands_among.ensures.1 (subst (λ (x : Item). HasStamp c.args.others.now x.stamp) (sym c.item-item.is) (all c.loop-item.item-index c.item-item.result c.loop-item-test.true))) ∙ c.if-not-stands_among.true)),
)

pub loop-item-preserved : goal.loop-item-preserved
loop-item-preserved c =
    All-more (λ (x : Item). HasStamp c.args.others.now x.stamp) c.args.items.now c.loop-item.item-index c.item-item.result c.loop-item-test.true c.loop-item.invariant
    (subst (λ (x : Item). HasStamp c.args.others.now x.stamp) c.item-item.is (c.stands_among.ensures.0 c.if-not-stands_among.false))

pub returns : goal.returns
returns c = (
  λ _. subst (All (λ (x : Item). HasStamp c.args.others.now x.stamp)) (take_all c.loop-item.item-index c.args.items.now c.loop-item-test.false) c.loop-item.invariant,
  λ _. refl,
)
