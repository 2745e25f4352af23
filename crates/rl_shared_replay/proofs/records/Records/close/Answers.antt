use Rattle.std.proofs.Common.{◌+◌, ◌*◌, ◌++◌, [], ◌∷◌, sym, ap, ◌∙◌, refl, subst, arith, le_refl}
use Rattle.std.specs.Prelude.{slice_index}
use Rattle.rl_shared_replay.specs.declared.update.Update.{Update}
use Rattle.rl_shared_replay.specs.declared.view.View.{View}
use Rattle.rl_shared_replay.specs.Start.{Made}
use Rattle.rl_shared_replay.specs.Calls.{IsStoring, IsPlanned, version_in}
use Rattle.rl_shared_replay.proofs.Calls.{record_in}
use Rattle.rl_shared_replay.proofs.Settling.{may_close, seen_more, seen_last}
use Rattle.rl_shared_replay.proofs.records.Records.close.Goals as goal

abbrev AllStored : (u : Update) (x : Made × View) → Type 0
AllStored u x = IsStoring x.0 (version_in u) (1 + slice_index x.0.columns u.rec) x.1

pub store-requires : goal.store-requires
store-requires c =
    let made = ap (λ z. z.made) c.self.view_is in
    let view = ap (λ z. z.view) c.seat.view_is in
    let u = c.args.update.now in
    let r = record_in _ _ _ _ c.self.invariant _ made u.rec c.requires.record in (
      ap (λ z. z.table) c.seat.view_is ∙ c.requires.table ∙ sym (ap (λ z. z.table) c.self.view_is),
      (let l = r.1 in omega arith),
      may_close c.self.inside.table.shared.key.value u (subst (λ m. IsPlanned m u) (sym made) c.requires.planned) _ _ _ _ (subst (AllStored u) (λ i. (sym made i, sym view i)) c.requires.stored) c.word_of-word.ensures,
    )

pub invariant_of-seat : goal.invariant_of-seat
invariant_of-seat c =
    let s = subst (λ (v : View). AllStored c.args.update.now (c.args.self.now.made, v)) (sym (ap (λ z. z.view) c.seat.view_is)) c.requires.stored in
    ap (λ m. m.1) ((c.store.ensures.2 _ s.held).1 c.args.update.now.stamp c.word_of-word.ensures s.below) ∙ c.seat.invariant

pub returns-clause-free : goal.returns-clause-free
returns-clause-free c =
    let s = subst (λ (v : View). AllStored c.args.update.now (c.args.self.now.made, v)) (sym (ap (λ z. z.view) c.seat.view_is)) c.requires.stored in
    ap (λ m. m.0.held) ((c.store.ensures.2 _ s.held).1 c.args.update.now.stamp c.word_of-word.ensures s.below)

pub returns-clause-kept : goal.returns-clause-kept
returns-clause-kept c =
    let u = c.args.update.now in
    let s = subst (λ (v : View). AllStored u (c.args.self.now.made, v)) (sym (ap (λ z. z.view) c.seat.view_is)) c.requires.stored in
    let is = (c.store.ensures.2 _ s.held).1 u.stamp c.word_of-word.ensures s.below in
    seen_more c.args.seat.now.view c.store.new.seat.me.0 _ (ap (λ m. m.0.seen) is ∙ ap (λ z. z.view.seen ++ record { rec = u.rec; stamp = u.stamp } ∷ []) c.seat.view_is)

pub returns-clause-settled : goal.returns-clause-settled
returns-clause-settled c =
    let u = c.args.update.now in
    let s = subst (λ (v : View). AllStored u (c.args.self.now.made, v)) (sym (ap (λ z. z.view) c.seat.view_is)) c.requires.stored in
    let is = (c.store.ensures.2 _ s.held).1 u.stamp c.word_of-word.ensures s.below in
    seen_last c.store.new.seat.me.0 _ _ (version_in u) (ap (λ m. m.0.seen) is) refl (le_refl _)
