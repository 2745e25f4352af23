use Rattle.std.proofs.Common.{◌≡◌, ◌+◌, ◌*◌, ◌/◌, length, slice_index, ap, sym, ◌∙◌, refl, subst, arith}
use Rattle.rl_store.specs.declared.view.View.{View}
use Rattle.rl_value.specs.Cells.{row_of}
use Rattle.rl_store.specs.Opening.{Made}
use Rattle.rl_store.specs.Views.{HasNotRead, reading_of, refused, changed_at, locked_at, with_read}
use Rattle.rl_store.proofs.Calls.{record_of}
use Rattle.rl_store.proofs.Allowed.{confirm}
use Rattle.rl_store.proofs.Told.{again_tries}
use Rattle.rl_store.proofs.store.Store.confirm.Goals as goal

pub load-requires : goal.load-requires
load-requires c =
    let is = ap (λ z. z.view) c.pass.view_is in
    let made = ap (λ z. z.made) c.self.view_is in
    let r = record_of _ _ _ _ c.self.invariant _ made c.args.rec c.requires.record in
    let full = subst (λ (m : Made). length c.args.cells.now ≡ 1 + slice_index m.columns c.args.rec) (sym made) c.requires.full in (
      ap (λ z. z.table) c.pass.view_is ∙ c.requires.table ∙ sym (ap (λ z. z.table) c.self.view_is),
      (let l = r.1 in omega arith),
      confirm _ _ _ _ (reading_of _ _ _) (ap (λ v. v.attempt.reading) is ∙ c.requires.reading) full (subst (λ (v : View). HasNotRead v c.args.rec) (sym is) c.requires.once) (ap (λ v. v.attempt.drawn) is ∙ c.requires.free.1) (ap (λ v. v.attempt.held) is ∙ c.requires.free.0),
    )

pub invariant_of-pass : goal.invariant_of-pass
invariant_of-pass c =
    let t = c.load.ensures.2 (reading_of _ _ _) (ap (λ z. z.view.attempt.reading) c.pass.view_is ∙ c.requires.reading) in
    record {
      no_slots = t.0 ∙ c.pass.invariant.no_slots;
      tries = c.pass.invariant.tries ∙ sym (again_tries c.load.result _ _ c.load.new.seat.me.0 _ _ _ t.1 t.2 t.3 refl refl refl);
    }

pub returns-clause-read : goal.returns-clause-read
returns-clause-read c e =
    let even = c.requires.unlocked in
    (c.load.ensures.2 (reading_of _ _ _) (ap (λ z. z.view.attempt.reading) c.pass.view_is ∙ c.requires.reading)).1 (omega arith)
    ∙ ap (λ z. with_read z.view c.args.rec (c.args.word / 2) (row_of c.args.cells.now)) c.pass.view_is

pub returns-clause-locked : goal.returns-clause-locked
returns-clause-locked c n odd =
    let even = c.requires.unlocked in
    (c.load.ensures.2 (reading_of _ _ _) (ap (λ z. z.view.attempt.reading) c.pass.view_is ∙ c.requires.reading)).2 (λ same. n (omega arith)) odd
    ∙ ap (λ z. refused z.view (locked_at c.args.rec c.load.result)) c.pass.view_is

pub returns-clause-changed : goal.returns-clause-changed
returns-clause-changed c n m =
    let even = c.requires.unlocked in
    let twice : 2 * (c.args.word / 2) ≡ c.args.word = omega arith in
    (c.load.ensures.2 (reading_of _ _ _) (ap (λ z. z.view.attempt.reading) c.pass.view_is ∙ c.requires.reading)).3 (λ same. n (omega arith)) m
    ∙ ap (λ seen. refused c.pass.inside.inner.me.0 (changed_at c.args.rec seen c.load.result)) twice
    ∙ ap (λ z. refused z.view (changed_at c.args.rec c.args.word c.load.result)) c.pass.view_is
