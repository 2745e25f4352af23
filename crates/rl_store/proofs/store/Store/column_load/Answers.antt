use Rattle.std.proofs.Common.{◌+◌, ◌*◌, ◌/◌, ◌<◌, length, slice_index, ap, sym, ◌∙◌, subst, arith}
use Rattle.rl_store.specs.Opening.{Made}
use Rattle.rl_store.specs.Views.{reading_of, loaded}
use Rattle.rl_store.proofs.Calls.{record_of}
use Rattle.rl_store.proofs.Allowed.{column_load}
use Rattle.rl_store.proofs.store.Store.column_load.Goals as goal

pub load-requires : goal.load-requires
load-requires c =
    let is = ap (λ z. z.view) c.pass.view_is in
    let made = ap (λ z. z.made) c.self.view_is in
    let r = record_of _ _ _ _ c.self.invariant _ made c.args.rec c.requires.record in
    let cells = c.len.ensures.count in
    let more = subst (λ (m : Made). length c.args.cells.now < 1 + slice_index m.columns c.args.rec) (sym made) c.requires.more in
    let few = c.self.invariant.few c.args.rec in
    let same = ap (λ l. slice_index l c.args.rec) c.self.invariant.columns in (
      ap (λ z. z.table) c.pass.view_is ∙ c.requires.table ∙ sym (ap (λ z. z.table) c.self.view_is),
      (let l = r.1 in omega arith),
      column_load _ _ _ _ (reading_of _ _ _) _ (ap (λ v. v.attempt.reading) is ∙ c.requires.reading) (ap (λ k. 2 + (6 * c.args.rec + k)) cells) more (ap (λ v. v.attempt.drawn) is ∙ c.requires.free.1) (ap (λ v. v.attempt.held) is ∙ c.requires.free.0),
    )

pub invariant_of-pass : goal.invariant_of-pass
invariant_of-pass c =
    let told = c.load.ensures.2 (reading_of _ _ _) (ap (λ z. z.view.attempt.reading) c.pass.view_is ∙ c.requires.reading) in
    record {
      no_slots = told.0 ∙ c.pass.invariant.no_slots;
      tries = c.pass.invariant.tries ∙ sym (ap (λ v. v.tries) told.1);
    }

pub returns-clause-loaded : goal.returns-clause-loaded
returns-clause-loaded c =
    (c.load.ensures.2 (reading_of _ _ _) (ap (λ z. z.view.attempt.reading) c.pass.view_is ∙ c.requires.reading)).1
    ∙ ap (λ z. loaded z.view (reading_of c.args.rec (c.args.word / 2) c.args.cells.now) c.load.result) c.pass.view_is
