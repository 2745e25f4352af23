use Rattle.std.proofs.Common.{ℕ, ◌+◌, ◌*◌, ap, sym, ◌∙◌, subst, arith, MatchBool}
use Rattle.rl_store.specs.declared.view.View.{View}
use Rattle.rl_store.specs.Entries.{Holds, In}
use Rattle.rl_store.specs.Passes.{HasDrawn, HasReadWord}
use Rattle.rl_store.proofs.Calls.{record_of}
use Rattle.rl_store.proofs.Allowed.{validate}
use Rattle.rl_store.proofs.Refusing.{tells_of, check_tries}
use Rattle.rl_store.proofs.store.Store.validate_as.Goals as goal

pub load-requires : goal.load-requires
load-requires g c =
    let is = ap (λ z. z.view) c.pass.view_is in
    let r = record_of _ _ _ _ c.self.invariant _ (ap (λ z. z.made) c.self.view_is) c.args.rec c.requires.record in
    let read : HasReadWord c.pass.inside.inner.me.0 c.args.rec c.args.word = subst (λ (v : View). HasReadWord v c.args.rec c.args.word) (sym is) c.requires.read in
    let drawn : HasDrawn c.pass.inside.inner.me.0 = subst HasDrawn (sym is) c.requires.drawn in (
      ap (λ z. z.table) c.pass.view_is ∙ c.requires.table ∙ sym (ap (λ z. z.table) c.self.view_is),
      (let l = r.1 in omega arith),
      validate _ _ _ _ _ drawn.0 c.args.rec read.0 read.2 drawn.1 read.1
          (subst (λ (v : View). In c.args.rec v.attempt.validated → ⊥) (sym is) c.requires.once)
          (tells_of c.args.held _ _ _ c.requires.number (subst (λ (v : View). MatchBool c.args.held (Holds v c.args.rec) (Holds v c.args.rec → ⊥)) (sym is) c.requires.held)),
    )

pub invariant_of-pass : goal.invariant_of-pass
invariant_of-pass g c =
    let is = ap (λ z. z.view) c.pass.view_is in
    let read : HasReadWord c.pass.inside.inner.me.0 c.args.rec c.args.word = subst (λ (v : View). HasReadWord v c.args.rec c.args.word) (sym is) c.requires.read in
    let t = c.load.ensures.2 read.0 read.1 (ap (λ (q : ℕ). 1 + 6 * q) (sym read.2)) in
    record {
      no_slots = t.0 ∙ c.pass.invariant.no_slots;
      tries = c.pass.invariant.tries ∙ sym (check_tries _ c.load.result read.0 c.pass.inside.inner.me.0 c.load.new.seat.me.0 c.args.held c.requires.number t.1 t.2 t.3 t.4);
    }

pub returns-clause-own : goal.returns-clause-own
returns-clause-own g c own =
    let is = ap (λ z. z.view) c.pass.view_is in
    let read : HasReadWord c.pass.inside.inner.me.0 c.args.rec c.args.word = subst (λ (v : View). HasReadWord v c.args.rec c.args.word) (sym is) c.requires.read in
    (c.load.ensures.2 read.0 read.1 (ap (λ (q : ℕ). 1 + 6 * q) (sym read.2))).4 (c.requires.number ∙ own)
