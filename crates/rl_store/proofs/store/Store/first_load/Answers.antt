use Rattle.std.proofs.Common.{◌/◌, ap, sym, ◌∙◌, refl, arith}
use Rattle.rl_store.specs.Views.{refused, locked_at, begun}
use Rattle.rl_store.proofs.Calls.{record_of}
use Rattle.rl_store.proofs.Allowed.{first_load}
use Rattle.rl_store.proofs.Told.{first_tries}
use Rattle.rl_store.proofs.store.Store.first_load.Goals as goal

pub load-requires : goal.load-requires
load-requires c =
    let is = ap (λ z. z.view) c.pass.view_is in
    let r = record_of _ _ _ _ c.self.invariant _ (ap (λ z. z.made) c.self.view_is) c.args.rec c.requires.record in (
      ap (λ z. z.table) c.pass.view_is ∙ c.requires.table ∙ sym (ap (λ z. z.table) c.self.view_is),
      (let l = r.1 in omega arith),
      first_load _ _ _ _ c.args.rec r.0 (ap (λ v. v.attempt.drawn) is ∙ c.requires.free.1) (ap (λ v. v.attempt.held) is ∙ c.requires.free.0),
    )

pub invariant_of-pass : goal.invariant_of-pass
invariant_of-pass c =
    let t = c.load.ensures.2 c.args.rec refl in
    record {
      no_slots = t.0 ∙ c.pass.invariant.no_slots;
      tries = c.pass.invariant.tries ∙ sym (first_tries c.load.result _ c.load.new.seat.me.0 _ _ t.1 t.2 refl refl);
    }

pub returns-clause-locked : goal.returns-clause-locked
returns-clause-locked c odd = (c.load.ensures.2 c.args.rec refl).1 odd ∙ ap (λ z. refused z.view (locked_at c.args.rec c.load.result)) c.pass.view_is

pub returns-clause-begun : goal.returns-clause-begun
returns-clause-begun c even = (c.load.ensures.2 c.args.rec refl).2 even ∙ ap (λ z. begun z.view c.args.rec (c.load.result / 2)) c.pass.view_is
