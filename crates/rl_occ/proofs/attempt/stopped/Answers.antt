use Rattle.std.proofs.Common.{length, sym, subst}
use Rattle.rl_occ.specs.Locking.{AreBelow}
use Rattle.rl_occ.proofs.attempt.stopped.Goals as goal

pub release-requires-clause-records : goal.release-requires-clause-records
release-requires-clause-records c = subst (AreBelow (length c.args.store.now.made.columns)) (sym c.as_slice.ensures) c.requires.records
