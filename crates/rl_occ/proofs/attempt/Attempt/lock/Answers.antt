use Rattle.std.proofs.Common.{◌≡◌, length, sym, ◌∙◌, subst}
use Rattle.std.proofs.lemmas.Result.{err_from_is_err_and}
use Rattle.rl_store.specs.Refusals.{why}
use Rattle.rl_occ.specs.declared.attempt.Work.{Work}
use Rattle.rl_occ.specs.Working.{WorkFits}
use Rattle.rl_occ.proofs.Locks.{locks_below}
use Rattle.rl_occ.proofs.Phases.{all_recs, locked, other_so, still_run, still_seen, stopped_so}
use Rattle.rl_occ.proofs.attempt.Attempt.lock.Goals as goal

pub invariant_of-self : goal.invariant_of-self
invariant_of-self c =
    let a = c.self.inside in
    let tables = a.schema.now in
    let txn = a.txn.now in
    let fits = c.self.invariant.0 in
    let told = c.in_err-lock_all.ensures in
    let work : a.work ≡ _ = sym c.replace.ensures.value ∙ c.in-Executed.is in
    let h = subst (λ (w : Work). WorkFits tables txn a.store.now.made a.pass.view a.seen a.locks w) work c.self.invariant.1 in
    let writes = c.in-Executed.writes in
    let locks = c.lock_all.new.locks.items in (
      record { table = told.table ∙ fits.table; sizes = fits.sizes; store_fits = fits.store_fits; txn_fits = fits.txn_fits },
      subst (λ (w : Work). WorkFits tables txn a.store.now.made c.lock_all.new.pass.view a.seen c.lock_all.new.locks w) (sym c.replace.ensures.after) (
        stopped_so tables a.pass.view c.lock_all.new.pass.view locks writes (why c.in_err-lock_all.field-0.0) told.refused h.2.writes_fit told.locks,
        locks_below tables writes h.2.writes_fit (length locks) locks told.locks a.store.now.made fits.store_fits,
      ),
    )

pub returns-in_err-lock_all-clause-cause : goal.returns-in_err-lock_all-clause-cause
returns-in_err-lock_all-clause-cause c =
    let a = c.self.inside in
    let tables = a.schema.now in
    let told = c.in_err-lock_all.ensures in
    let work : a.work ≡ _ = sym c.replace.ensures.value ∙ c.in-Executed.is in
    let h = subst (λ (w : Work). WorkFits tables a.txn.now a.store.now.made a.pass.view a.seen a.locks w) work c.self.invariant.1 in
    let p = err_from_is_err_and c.from_residual.result c.from_residual.ensures.1 in
    rw (p.1, p.2) (other_so tables a.pass.view c.lock_all.new.pass.view c.lock_all.new.locks.items c.in-Executed.writes (why c.in_err-lock_all.field-0.0) told.refused h.2.writes_fit told.locks c.in_err-lock_all.field-0.0 told.cause)

pub invariant_of-self-2 : goal.invariant_of-self-2
invariant_of-self-2 c =
    let a = c.self.inside in
    let tables = a.schema.now in
    let txn = a.txn.now in
    let fits = c.self.invariant.0 in
    let told = c.in_ok-lock_all.ensures in
    let work : a.work ≡ _ = sym c.replace.ensures.value ∙ c.in-Executed.is in
    let h = subst (λ (w : Work). WorkFits tables txn a.store.now.made a.pass.view a.seen a.locks w) work c.self.invariant.1 in
    let reply = c.in-Executed.reply in
    let writes = c.in-Executed.writes in
    let v = a.pass.view in
    let w = c.lock_all.new.pass.view in
    let locks = c.lock_all.new.locks.items in (
      record { table = told.table ∙ fits.table; sizes = fits.sizes; store_fits = fits.store_fits; txn_fits = fits.txn_fits },
      (
        locked tables txn v w a.seen.items locks reply writes told.locked h.0,
        still_seen tables txn v w a.seen.items locks reply writes told.locked h.1,
        still_run tables txn v w a.seen.items locks reply writes told.locked h.2,
        all_recs tables writes locks told.locks told.all,
      ),
    )
