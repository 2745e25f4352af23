use Rattle.std.proofs.Common.{◌<◌, length, slice_index_or, ap, sym, ◌∙◌, subst, arith}
use Rattle.std.proofs.lemmas.Result.{err_from_is_err_and}
use Rattle.rl_store.specs.declared.view.View.{View}
use Rattle.rl_store.specs.Entries.{In}
use Rattle.rl_store.specs.Passes.{HasDrawn, HasReadWord}
use Rattle.rl_store.specs.Refusals.{why}
use Rattle.rl_store.specs.Views.{settled, stopped, with_valid}
use Rattle.rl_occ.specs.declared.sets.Seen.{Seen}
use Rattle.rl_occ.specs.Outcomes.{HasRefused, IsStopped}
use Rattle.rl_occ.proofs.Locks.{match_holds}
use Rattle.rl_occ.proofs.Places.{at_or}
use Rattle.rl_occ.proofs.Validations.{cause_of, first_valid, goes_on, has_read, if_err, next_valid, not_valid, refuses_first, stops}
use Rattle.rl_occ.proofs.commit.validate_all.Goals as goal

pub validate-requires-clause-record : goal.validate-requires-clause-record
validate-requires-clause-record c =
    let d : Seen = record { rec = 0; word = 0 } in
    c.requires.records (slice_index_or c.args.seen.now c.loop-i.i d) (c.loop-i.i, at_or c.args.seen.now c.loop-i.i d c.loop-i-test.true)

pub validate-requires-clause-read : goal.validate-requires-clause-read
validate-requires-clause-read c =
    let d : Seen = record { rec = 0; word = 0 } in
    let s = slice_index_or c.args.seen.now c.loop-i.i d in
    let at = at_or c.args.seen.now c.loop-i.i d c.loop-i-test.true in
    let v = c.args.pass.now.view in
    let is = c.loop-i.invariant.1 ∙ goes_on v c.args.seen.now c.args.locks.now c.requires.drawn c.loop-i.i s at in
    subst (λ (w : View). HasReadWord w s.rec s.word) (sym is) (has_read v c.args.seen.now c.args.locks.now c.requires.drawn c.loop-i.i s at)

pub validate-requires-clause-once : goal.validate-requires-clause-once
validate-requires-clause-once c =
    let d : Seen = record { rec = 0; word = 0 } in
    let s = slice_index_or c.args.seen.now c.loop-i.i d in
    let at = at_or c.args.seen.now c.loop-i.i d c.loop-i-test.true in
    let v = c.args.pass.now.view in
    let is = c.loop-i.invariant.1 ∙ goes_on v c.args.seen.now c.args.locks.now c.requires.drawn c.loop-i.i s at in
    subst (λ (w : View). In s.rec w.attempt.validated → ⊥) (sym is) (not_valid v c.args.seen.now c.args.locks.now c.requires.drawn c.loop-i.i s at)

pub validate-requires-clause-drawn : goal.validate-requires-clause-drawn
validate-requires-clause-drawn c =
    let d : Seen = record { rec = 0; word = 0 } in
    let s = slice_index_or c.args.seen.now c.loop-i.i d in
    let at = at_or c.args.seen.now c.loop-i.i d c.loop-i-test.true in
    let v = c.args.pass.now.view in
    let is = c.loop-i.invariant.1 ∙ goes_on v c.args.seen.now c.args.locks.now c.requires.drawn c.loop-i.i s at in
    let some_ : 0 < length c.args.seen.now = (let t = c.loop-i-test.true in omega arith) in
    subst HasDrawn (sym is) (c.requires.drawn.drawn some_)

pub validate-requires-clause-held : goal.validate-requires-clause-held
validate-requires-clause-held c =
    let d : Seen = record { rec = 0; word = 0 } in
    let s = slice_index_or c.args.seen.now c.loop-i.i d in
    let at = at_or c.args.seen.now c.loop-i.i d c.loop-i-test.true in
    let v = c.args.pass.now.view in
    let is = c.loop-i.invariant.1 ∙ goes_on v c.args.seen.now c.args.locks.now c.requires.drawn c.loop-i.i s at in
    match_holds c.is_locked.result c.loop-i.pass.view c.args.locks.now s.rec (ap (λ (w : View). w.attempt.held) is ∙ c.requires.drawn.held) c.is_locked.ensures

pub returns-in_err-validate-clause-refused : goal.returns-in_err-validate-clause-refused
returns-in_err-validate-clause-refused c =
    let d : Seen = record { rec = 0; word = 0 } in
    let s = slice_index_or c.args.seen.now c.loop-i.i d in
    let at = at_or c.args.seen.now c.loop-i.i d c.loop-i-test.true in
    let v = c.args.pass.now.view in
    let is = c.loop-i.invariant.1 ∙ goes_on v c.args.seen.now c.args.locks.now c.requires.drawn c.loop-i.i s at in
    let p = err_from_is_err_and c.from_residual.result c.from_residual.ensures.1 in
    let x = why c.in_err-validate.field-0.0 in
    let eq = c.in_err-validate.ensures.refused ∙ ap (λ (u : View). stopped u.attempt.held u x) is in
    rw (p.1, p.2) (refuses_first v c.loop-i.i c.validate.new.pass.view x (subst (λ (u : View). HasRefused (first_valid v c.loop-i.i) u x) (sym eq) (stops (first_valid v c.loop-i.i) c.args.locks.now x c.requires.drawn.held c.requires.apart).0))

pub returns-in_err-validate-clause-tries : goal.returns-in_err-validate-clause-tries
returns-in_err-validate-clause-tries c =
    let d : Seen = record { rec = 0; word = 0 } in
    let s = slice_index_or c.args.seen.now c.loop-i.i d in
    let at = at_or c.args.seen.now c.loop-i.i d c.loop-i-test.true in
    let v = c.args.pass.now.view in
    let is = c.loop-i.invariant.1 ∙ goes_on v c.args.seen.now c.args.locks.now c.requires.drawn c.loop-i.i s at in
    let p = err_from_is_err_and c.from_residual.result c.from_residual.ensures.1 in
    let x = why c.in_err-validate.field-0.0 in
    let eq = c.in_err-validate.ensures.refused ∙ ap (λ (u : View). stopped u.attempt.held u x) is in
    let st = stops (first_valid v c.loop-i.i) c.args.locks.now x c.requires.drawn.held c.requires.apart in
    if_err c.from_residual.result _ (ap (λ (u : View). u.tries) eq ∙ st.2, ap (λ (u : View). u.draws) eq ∙ st.3)

pub returns-in_err-validate-clause-stopped : goal.returns-in_err-validate-clause-stopped
returns-in_err-validate-clause-stopped c =
    let d : Seen = record { rec = 0; word = 0 } in
    let s = slice_index_or c.args.seen.now c.loop-i.i d in
    let at = at_or c.args.seen.now c.loop-i.i d c.loop-i-test.true in
    let v = c.args.pass.now.view in
    let is = c.loop-i.invariant.1 ∙ goes_on v c.args.seen.now c.args.locks.now c.requires.drawn c.loop-i.i s at in
    let p = err_from_is_err_and c.from_residual.result c.from_residual.ensures.1 in
    let x = why c.in_err-validate.field-0.0 in
    let eq = c.in_err-validate.ensures.refused ∙ ap (λ (u : View). stopped u.attempt.held u x) is in
    if_err c.from_residual.result _ (subst (λ (u : View). IsStopped u c.args.locks.now) (sym eq) (stops (first_valid v c.loop-i.i) c.args.locks.now x c.requires.drawn.held c.requires.apart).1)

pub returns-in_err-validate-clause-cause : goal.returns-in_err-validate-clause-cause
returns-in_err-validate-clause-cause c =
    let d : Seen = record { rec = 0; word = 0 } in
    let s = slice_index_or c.args.seen.now c.loop-i.i d in
    let at = at_or c.args.seen.now c.loop-i.i d c.loop-i-test.true in
    let p = err_from_is_err_and c.from_residual.result c.from_residual.ensures.1 in
    rw (p.1, p.2) (cause_of c.args.seen.now c.args.locks.now c.loop-i.i s at c.is_locked.result c.is_locked.ensures c.in_err-validate.field-0.0 c.in_err-validate.ensures.cause)

pub loop-i-preserved : goal.loop-i-preserved
loop-i-preserved c =
    let d : Seen = record { rec = 0; word = 0 } in
    let s = slice_index_or c.args.seen.now c.loop-i.i d in
    let at = at_or c.args.seen.now c.loop-i.i d c.loop-i-test.true in
    let v = c.args.pass.now.view in
    let is = c.loop-i.invariant.1 ∙ goes_on v c.args.seen.now c.args.locks.now c.requires.drawn c.loop-i.i s at in (
      c.validate.ensures.table ∙ c.loop-i.invariant.0,
      c.in_ok-validate.ensures.valid ∙ ap (λ (u : View). settled (with_valid u s.rec)) is ∙ ap settled (next_valid v c.args.seen.now c.args.locks.now c.requires.drawn c.loop-i.i s at),
    )
