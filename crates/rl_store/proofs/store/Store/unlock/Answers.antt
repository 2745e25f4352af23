use Rattle.std.proofs.Common.{refl, ap, sym, ◌∙◌, subst, arith}
use Rattle.rl_store.specs.declared.view.View.{View}
use Rattle.rl_store.specs.Entries.{IsDecided}
use Rattle.rl_store.specs.Passes.{HoldsWord}
use Rattle.rl_store.specs.Views.{without}
use Rattle.rl_store.proofs.Calls.{record_of}
use Rattle.rl_store.proofs.Allowed.{unlock}
use Rattle.rl_store.proofs.Unlocking.{unlock_tries}
use Rattle.rl_store.proofs.store.Store.unlock.Goals as goal

pub store-requires : goal.store-requires
store-requires c =
    let is = ap (λ z. z.view) c.pass.view_is in
    let r = record_of _ _ _ _ c.self.invariant _ (ap (λ z. z.made) c.self.view_is) c.args.rec c.requires.record in
    let held : HoldsWord c.pass.inside.inner.me.0 c.args.rec c.args.old = subst (λ (v : View). HoldsWord v c.args.rec c.args.old) (sym is) c.requires.held in (
      ap (λ z. z.table) c.pass.view_is ∙ c.requires.table ∙ sym (ap (λ z. z.table) c.self.view_is),
      (let l = r.1 in omega arith),
      unlock _ _ _ _ c.args.rec c.args.old held.0 held.2 held.3 held.1 (subst (λ (v : View). IsDecided v.attempt → ⊥) (sym is) c.requires.undecided),
    )

pub invariant_of-pass : goal.invariant_of-pass
invariant_of-pass c =
    let t = c.store.ensures.2 c.args.rec refl in
    let v = c.pass.inside.inner.me.0 in
    record {
      no_slots = ap (λ z. z.1) t ∙ c.pass.invariant.no_slots;
      tries = c.pass.invariant.tries ∙ sym (ap (λ z. z.0.tries) t ∙ unlock_tries (without c.args.rec v.attempt.held) v c.args.rec);
    }
