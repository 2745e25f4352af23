use Rattle.std.proofs.Common.{◌≡◌, List, [], ◌∷◌, ◌++◌, length, Bool, take, false, sym, ap, ◌∙◌, subst, arith, refl, Result, Ok, Err}
use Rattle.std.proofs.lemmas.List.{take_all}
use Rattle.std.specs.Result.{OnErr}
use Rattle.rl_value.specs.Rows.{Rows}
use Rattle.rl_txn.specs.declared.item.Item.{Item}
use Rattle.rl_txn.specs.Serial.{after_writes}
use Rattle.rl_replay.specs.Replay.{newest_writes}
use Rattle.rl_replay.specs.Standing.{StandingReplica}
use Rattle.rl_replay.specs.Newest.{AreNewest}
use Rattle.rl_replay.specs.Kept.{AreStampsOf}
use Rattle.rl_replay.proofs.Newer.{fresh_is, newest_more}
use Rattle.rl_replay.proofs.Applied.{stamps_more}
use Rattle.rl_replay.proofs.replica.Replica.keep.Goals as goal

on_err : {A B P : Type 0} (r : Result A B) → P → OnErr r P
on_err (Ok a) p = tt
on_err (Err e) p = p

pub returns-in_err-apply_newest-clause-err : goal.returns-in_err-apply_newest-clause-err
returns-in_err-apply_newest-clause-err c =
    let was : c.self.inside.failed ≡ false = ap (λ (r : StandingReplica). r.replaying.failed) c.self.view_is ∙ c.requires in
    let old : List Item = c.self.inside.applied.items in
    let made = c.in_err-apply_newest.ensures.prefix in
    rw (← c.self.view_is) (on_err c.from_residual-in_err-apply_newest.result (record {
      failed = refl;
      applied = c.reserve.ensures.items;
      played = refl;
      prefix = (made.0, made.1 ∙ ap (λ ws. after_writes c.self.inside.map (take made.0 ws)) (fresh_is old c.self.inside.newest c.args.item.now (c.self.invariant.newest was)));
    }))

pub returns-in_err-insert-clause-err : goal.returns-in_err-insert-clause-err
returns-in_err-insert-clause-err c =
    let was : c.self.inside.failed ≡ false = ap (λ (r : StandingReplica). r.replaying.failed) c.self.view_is ∙ c.requires in
    let old : List Item = c.self.inside.applied.items in
    let rows = c.in_ok-apply_newest.ensures.rows ∙ ap (after_writes c.self.inside.map) (fresh_is old c.self.inside.newest c.args.item.now (c.self.invariant.newest was)) in
    let all = newest_writes old c.args.item.now in
    rw (← c.self.view_is) (on_err c.from_residual-in_err-insert.result (record {
      failed = refl;
      applied = c.reserve.ensures.items;
      played = refl;
      prefix = (length all, rows ∙ ap (after_writes c.self.inside.map) (sym (take_all (length all) all (omega arith))));
    }))

pub invariant_of-self-2 : goal.invariant_of-self-2
invariant_of-self-2 c =
    let was : c.self.inside.failed ≡ false = ap (λ (r : StandingReplica). r.replaying.failed) c.self.view_is ∙ c.requires in
    let old : List Item = c.self.inside.applied.items in
    let x : Item = c.args.item.now in
    let is = c.push_reserved.ensures.items ∙ ap (λ l. l ++ c.in_ok-kept.kept ∷ []) c.reserve.ensures.items ∙ ap (λ y. old ++ y ∷ []) c.in_ok-kept.ensures in
    record {
      newest = λ _. subst (λ items. AreNewest items c.apply_newest.new.newest) (sym is)
          (newest_more old c.self.inside.newest c.apply_newest.new.newest x (c.self.invariant.newest was) c.in_ok-apply_newest.ensures.stamps);
      stamps = subst (λ items. AreStampsOf items c.insert.new.self) (sym is) (stamps_more old c.self.inside.stamps c.insert.new.self x c.self.invariant.stamps c.in_ok-insert.ensures.updates);
      cursors = c.self.invariant.cursors;
      fits = c.self.invariant.fits;
    }

pub returns-clause-kept : goal.returns-clause-kept
returns-clause-kept c =
    let was : c.self.inside.failed ≡ false = ap (λ (r : StandingReplica). r.replaying.failed) c.self.view_is ∙ c.requires in
    let old : List Item = c.self.inside.applied.items in
    let make : List Item → Rows → Bool → StandingReplica = λ a r f. record { replaying = record { applied = a; played = c.self.inside.played.items; rows = r; failed = f }; cursors = c.self.inside.cursors.items } in
    let is = c.push_reserved.ensures.items ∙ ap (λ l. l ++ c.in_ok-kept.kept ∷ []) c.reserve.ensures.items ∙ ap (λ y. old ++ y ∷ []) c.in_ok-kept.ensures in
    let rows = c.in_ok-apply_newest.ensures.rows ∙ ap (after_writes c.self.inside.map) (fresh_is old c.self.inside.newest c.args.item.now (c.self.invariant.newest was)) in
    rw (← c.self.view_is) (ap (λ a. make a c.apply_newest.new.map false) is ∙ ap (λ r. make (old ++ c.args.item.now ∷ []) r false) rows
    ∙ ap (make (old ++ c.args.item.now ∷ []) (after_writes c.self.inside.map (newest_writes old c.args.item.now))) (sym was))
