use Rattle.std.proofs.Common.{sym, ap, ◌∙◌, refl, arith}
use Rattle.rl_store.proofs.Allowed.{lock}
use Rattle.rl_store.proofs.Calls.{record_of}
use Rattle.rl_store.proofs.Locking.{stop_tries}
use Rattle.rl_store.proofs.Told.{first_tries}
use Rattle.rl_store.proofs.store.Store.lock.Goals as goal

pub fetch_or-word-requires : goal.fetch_or-word-requires
fetch_or-word-requires c =
    let r = record_of _ _ _ _ c.self.invariant _ (ap (λ z. z.made) c.self.view_is) c.args.rec c.requires.record in (
      ap (λ z. z.table) c.pass.view_is ∙ c.requires.table ∙ sym (ap (λ z. z.table) c.self.view_is),
      (let l = r.1 in omega arith),
      lock _ _ _ _ c.args.rec r.0 (ap (λ z. z.view.attempt.drawn) c.pass.view_is ∙ c.requires.undrawn),
    )

pub invariant_of-pass : goal.invariant_of-pass
invariant_of-pass c =
    let t = c.fetch_or-word.ensures.2 c.args.rec refl in
    record {
      no_slots = t.0 ∙ c.pass.invariant.no_slots;
      tries = c.pass.invariant.tries ∙ sym (first_tries c.fetch_or-word.result c.pass.inside.inner.me.0.tries c.fetch_or-word.new.seat.me.0 _ _ t.1 t.2 (stop_tries _ _) refl);
    }

pub invariant_of-pass-2 : goal.invariant_of-pass-2
invariant_of-pass-2 c =
    let t = c.fetch_or-word.ensures.2 c.args.rec refl in
    record {
      no_slots = t.0 ∙ c.pass.invariant.no_slots;
      tries = c.pass.invariant.tries ∙ sym (first_tries c.fetch_or-word.result c.pass.inside.inner.me.0.tries c.fetch_or-word.new.seat.me.0 _ _ t.1 t.2 (stop_tries _ _) refl);
    }
