use Rattle.std.proofs.Common.{sym, refl, subst, ap, List, ◌∙◌, All, true≢false}
use Rattle.std.proofs.lemmas.List.{take_all}
use Rattle.std.proofs.lemmas.List.Elements.{All-more}
use Rattle.rl_txn.specs.declared.item.Item.{Item}
use Rattle.rl_replay.specs.Replay.{HasStamp}
use Rattle.rl_replay.specs.Standing.{StandingReplica}
use Rattle.rl_replay.proofs.replica.Replica.has_applied.Goals as goal

pub returns-then-not-contains : goal.returns-then-not-contains
returns-then-not-contains c =
    let items : List Item = c.self.inside.applied.items in
    let s = c.item-item.result.stamp in
    let applied = ap (λ (r : StandingReplica). r.replaying.applied) c.self.view_is in (
      λ t. absurd (true≢false (sym t)),
      λ all.
          let here : HasStamp c.args.self.now.replaying.applied s = subst (λ (x : Item). HasStamp c.args.self.now.replaying.applied x.stamp) (sym c.item-item.is) (all c.loop-item.item-index c.item-item.result c.loop-item-test.true) in
          let mine : HasStamp items s = subst (λ l. HasStamp l s) (sym applied) here in
          absurd (true≢false (sym ((c.self.invariant.stamps (s.epoch, s.seq)).1 mine) ∙ sym c.contains.ensures ∙ c.if-not-contains.true)),
    )

pub loop-item-preserved : goal.loop-item-preserved
loop-item-preserved c =
    let items : List Item = c.self.inside.applied.items in
    let s = c.item-item.result.stamp in
    All-more (λ (x : Item). HasStamp items x.stamp) c.args.items.now c.loop-item.item-index c.item-item.result c.loop-item-test.true c.loop-item.invariant
    (subst (λ (x : Item). HasStamp items x.stamp) c.item-item.is ((c.self.invariant.stamps (s.epoch, s.seq)).0 (sym c.contains.ensures ∙ c.if-not-contains.false)))

pub returns : goal.returns
returns c =
    let applied = ap (λ (r : StandingReplica). r.replaying.applied) c.self.view_is in (
      λ _. subst (λ (l : List Item). All (λ (x : Item). HasStamp l x.stamp) c.args.items.now) applied
          (subst (All (λ (x : Item). HasStamp c.self.inside.applied.items x.stamp)) (take_all c.loop-item.item-index c.args.items.now c.loop-item-test.false) c.loop-item.invariant),
      λ _. refl,
    )
