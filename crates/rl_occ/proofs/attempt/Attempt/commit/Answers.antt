use Rattle.std.proofs.Common.{◌≡◌, ℕ, ◌+◌, ◌*◌, ◌<◌, List, length, sym, subst}
use Rattle.rl_store.specs.declared.view.View.{View}
use Rattle.rl_store.specs.Entries.{In}
use Rattle.rl_store.specs.Refusals.{why}
use Rattle.rl_occ.specs.declared.attempt.Work.{Work}
use Rattle.rl_occ.specs.declared.sets.Lock.{Lock}
use Rattle.rl_occ.specs.declared.sets.Seen.{Seen}
use Rattle.rl_occ.specs.Attempts.{AttemptOf, IsCommitted, RefusesCommit, with_loss}
use Rattle.rl_occ.specs.Committing.{IsToValidate}
use Rattle.rl_occ.specs.Locking.{AreApart, AreBelow}
use Rattle.rl_occ.specs.Outcomes.{RefusesReads}
use Rattle.rl_occ.specs.Working.{WorkFits, phase_of}
use Rattle.rl_occ.proofs.Commits.{ends, is_committed, is_lost, seen_below}
use Rattle.rl_occ.proofs.Finishes.{validates}
use Rattle.rl_occ.proofs.attempt.Attempt.commit.Goals as goal

pub release-requires-clause-apart : goal.release-requires-clause-apart
release-requires-clause-apart c =
    let a = c.self.inside in
    subst AreApart (sym c.as_slice.ensures) (ends a.schema.now a.txn.now a.store.now.made a.pass.view a.seen a.locks a.work c.self.invariant.1 c.self.invariant.0.store_fits).0

pub release-requires-clause-records : goal.release-requires-clause-records
release-requires-clause-records c =
    let a = c.self.inside in
    subst (AreBelow (length a.store.now.made.columns)) (sym c.as_slice.ensures) (ends a.schema.now a.txn.now a.store.now.made a.pass.view a.seen a.locks a.work c.self.invariant.1 c.self.invariant.0.store_fits).1

pub finish-finished-requires-clause-records : goal.finish-finished-requires-clause-records
finish-finished-requires-clause-records c x i =
    let a = c.self.inside in
    let h = subst (λ (w : Work). WorkFits a.schema.now a.txn.now a.store.now.made a.pass.view a.seen a.locks w) c.in-Locked.is c.self.invariant.1 in
    seen_below a.schema.now a.store.now.made a.pass.view a.seen.items h.1 c.self.invariant.0.store_fits x (subst (In x) c.as_slice-2.ensures i)

pub finish-finished-requires-clause-drawn : goal.finish-finished-requires-clause-drawn
finish-finished-requires-clause-drawn c =
    let a = c.self.inside in
    let h = subst (λ (w : Work). WorkFits a.schema.now a.txn.now a.store.now.made a.pass.view a.seen a.locks w) c.in-Locked.is c.self.invariant.1 in
    let t : ℕ = a.store.now.made.epoch * 1099511627776 + c.in-Ok.seq in
    subst (λ (p : View × (List Seen × List Lock)). IsToValidate p.0 p.1.0 p.1.1) (λ j. (sym c.in-Ok.ensures.drawn j, (sym c.as_slice-2.ensures j, sym c.as_slice-3.ensures j)))
    (validates a.pass.view a.locks.items a.seen.items h.0 h.1.seen h.1.once t)

pub returns-in-Ok-finished-clause-decided : goal.returns-in-Ok-finished-clause-decided
returns-in-Ok-finished-clause-decided c =
    let a = c.self.inside in
    let h = subst (λ (w : Work). WorkFits a.schema.now a.txn.now a.store.now.made a.pass.view a.seen a.locks w) c.in-Locked.is c.self.invariant.1 in
    let told = c.in-Ok.ensures in
    let ran = c.decided.ensures.run in
    subst (λ (b : AttemptOf). IsCommitted b c.finish-finished.new.pass.view c.decided.result) c.self.view_is
    (is_committed _ a.locks.items a.seen.items c.in-Locked.reply c.in-Locked.writes h.0 h.1 h.2 h.3 c.in-Ok.seq c.draw.new.pass.view told.drawn c.finish-finished.new.pass.view c.decided.result c.decided.ensures.stamp ran.0 ran.1 told.seq told.above told.left c.in-Ok-finished.ensures.committed)

pub returns-clause-failed : goal.returns-clause-failed
returns-clause-failed c =
    let a = c.self.inside in
    let h = subst (λ (w : Work). WorkFits a.schema.now a.txn.now a.store.now.made a.pass.view a.seen a.locks w) c.in-Locked.is c.self.invariant.1 in
    let told = c.in-Ok.ensures in
    let end = c.in-Err.ensures in
    subst (λ (b : AttemptOf). (0 < b.view.tries) × (c.finish-finished.new.pass.view ≡ with_loss b.view (why c.in-Err.refusal)) × RefusesCommit b.view c.in-Err.refusal) c.self.view_is
    (is_lost (record { store = a.store.now; tables = a.schema.now; txn = a.txn.now; view = a.pass.view; phase = phase_of a.work }) a.locks.items a.seen.items c.in-Locked.reply c.in-Locked.writes h.0 h.1 h.2 h.3 c.in-Ok.seq c.draw.new.pass.view told.drawn c.finish-finished.new.pass.view c.in-Err.refusal told.left (subst (λ (l : List Seen). 0 < length l) c.as_slice-2.ensures end.some) end.lost (subst (λ (p : List Seen × List Lock). RefusesReads p.0 p.1 c.in-Err.refusal) (λ i. (c.as_slice-2.ensures i, c.as_slice-3.ensures i)) end.cause))
