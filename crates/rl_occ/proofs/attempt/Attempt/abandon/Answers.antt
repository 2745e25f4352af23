use Rattle.std.proofs.Common.{length, sym, subst}
use Rattle.rl_occ.specs.Locking.{AreApart, AreBelow}
use Rattle.rl_occ.proofs.Commits.{ends}
use Rattle.rl_occ.proofs.attempt.Attempt.abandon.Goals as goal

pub release-requires-clause-apart : goal.release-requires-clause-apart
release-requires-clause-apart c =
    let a = c.self.inside in
    subst AreApart (sym c.as_slice.ensures) (ends a.schema.now a.txn.now a.store.now.made a.pass.view a.seen a.locks a.work c.self.invariant.1 c.self.invariant.0.store_fits).0

pub release-requires-clause-records : goal.release-requires-clause-records
release-requires-clause-records c =
    let a = c.self.inside in
    subst (AreBelow (length a.store.now.made.columns)) (sym c.as_slice.ensures) (ends a.schema.now a.txn.now a.store.now.made a.pass.view a.seen a.locks a.work c.self.invariant.1 c.self.invariant.0.store_fits).1
