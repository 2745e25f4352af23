use Rattle.std.proofs.Common.{◌≡◌, sym, ◌∙◌, subst}
use Rattle.rl_txn.specs.Eval.{rows_given}
use Rattle.rl_occ.specs.declared.attempt.Work.{Work}
use Rattle.rl_occ.specs.Working.{WorkFits}
use Rattle.rl_occ.proofs.Runs.{has_run, has_seen}
use Rattle.rl_occ.proofs.attempt.Attempt.execute.Goals as goal

pub invariant_of-self-2 : goal.invariant_of-self-2
invariant_of-self-2 c =
    let a = c.self.inside in
    let tables = a.schema.now in
    let txn = a.txn.now in
    let fits = c.self.invariant.0 in
    let told = c.in_ok-run_on.ensures in
    let work : a.work ≡ _ = sym c.replace.ensures.value ∙ c.in-Begun.is in
    let h = subst (λ (w : Work). WorkFits tables txn a.store.now.made a.pass.view a.seen a.locks w) work c.self.invariant.1 in
    let eval = c.run_on.new.eval in (
      record { table = told.table ∙ fits.table; sizes = fits.sizes; store_fits = fits.store_fits; txn_fits = fits.txn_fits },
      (
        told.read.only,
        has_seen tables c.run_on.new.pass.view (rows_given eval) c.run_on.new.seen.items told.read,
        has_run tables c.answers.ensures.fit c.records_and_places.ensures.record_of_key txn eval c.run_on.new.pass.view c.run_on.new.seen.items c.finish-reply.result.0 c.finish-reply.result.1 fits.txn_fits told.read (λ rows has_. c.finish-reply.ensures tables txn rows told.eval has_),
        h.3,
        h.4,
      ),
    )
