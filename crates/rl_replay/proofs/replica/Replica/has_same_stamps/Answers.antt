use Rattle.std.proofs.Common.{ap, sym, subst, ◌∙◌, All}
use Rattle.rl_txn.specs.declared.item.Item.{Item}
use Rattle.rl_replay.specs.Replay.{HasStamp}
use Rattle.rl_replay.specs.Standing.{StandingReplica}
use Rattle.rl_replay.proofs.replica.Replica.has_same_stamps.Goals as goal

pub returns-then-has_applied : goal.returns-then-has_applied
returns-then-has_applied c =
    let applied = c.deref.ensures.value ∙ ap (λ (r : StandingReplica). r.replaying.applied) c.self.view_is in (
      λ t. (c.has_applied.ensures.0 c.if-has_applied.true, subst (All (λ (x : Item). HasStamp c.args.items.now x.stamp)) applied (c.are_among.ensures.0 t)),
      λ h. c.are_among.ensures.1 (subst (All (λ (x : Item). HasStamp c.args.items.now x.stamp)) (sym applied) h.1),
    )
