use Rattle.std.specs.Prelude.{Err}
use Rattle.std.proofs.Common.{◌≡◌, ℕ, ◌+◌, ◌*◌, ◌<◌, ◌≤◌, List, length, ap, sym, ◌∙◌, subst}
use Rattle.rl_store.specs.declared.view.View.{View}
use Rattle.rl_store.specs.Entries.{In}
use Rattle.rl_store.specs.Refusals.{why}
use Rattle.rl_occ.specs.declared.attempt.Work.{Work}
use Rattle.rl_occ.specs.declared.sets.Lock.{Lock}
use Rattle.rl_occ.specs.declared.sets.Seen.{Seen}
use Rattle.rl_occ.specs.Attempts.{AttemptOf, HaltsAs, IsCommitted, RefusesCommit, with_loss}
use Rattle.rl_occ.specs.Committing.{IsToValidate}
use Rattle.rl_base.specs.declared.stamp.Stamp.{Stamp}
use Rattle.rl_occ.specs.Outcomes.{IsStopped, RefusesReads}
use Rattle.rl_occ.specs.Working.{WorkFits, phase_of}
use Rattle.rl_occ.proofs.Commits.{ends, halts, is_committed, is_lost, seen_below, stop_state}
use Rattle.rl_occ.proofs.Finishes.{validates}
use Rattle.rl_occ.proofs.attempt.Attempt.commit_below.Goals as goal

pub finish-finished-requires-clause-records : goal.finish-finished-requires-clause-records
finish-finished-requires-clause-records c x i =
    let a = c.self.inside in
    let h = subst (λ (w : Work). WorkFits a.schema.now a.txn.now a.store.now.made a.pass.view a.seen a.locks w) c.in-Locked.is c.self.invariant.1 in
    seen_below a.schema.now a.store.now.made a.pass.view a.seen.items h.1 c.self.invariant.0.store_fits x (subst (In x) c.as_slice.ensures i)

pub finish-finished-requires-clause-drawn : goal.finish-finished-requires-clause-drawn
finish-finished-requires-clause-drawn c =
    let a = c.self.inside in
    let h = subst (λ (w : Work). WorkFits a.schema.now a.txn.now a.store.now.made a.pass.view a.seen a.locks w) c.in-Locked.is c.self.invariant.1 in
    let t : ℕ = a.store.now.made.epoch * 1099511627776 + c.in-Ok.seq in
    subst (λ (p : View × (List Seen × List Lock)). IsToValidate p.0 p.1.0 p.1.1) (λ j. (sym c.in-Ok.ensures.drawn j, (sym c.as_slice.ensures j, sym c.as_slice-2.ensures j)))
    (validates a.pass.view a.locks.items a.seen.items h.0 h.1.seen h.1.once t)

pub stopped-halt-requires-clause-stopped : goal.stopped-halt-requires-clause-stopped
stopped-halt-requires-clause-stopped c =
    let a = c.self.inside in
    let here : AttemptOf = record { store = a.store.now; tables = a.schema.now; txn = a.txn.now; view = a.pass.view; phase = phase_of a.work } in
    let h = subst (λ (w : Work). WorkFits a.schema.now a.txn.now a.store.now.made a.pass.view a.seen a.locks w) c.in-Locked.is c.self.invariant.1 in
    let apart = (ends a.schema.now a.txn.now a.store.now.made a.pass.view a.seen a.locks a.work c.self.invariant.1 c.self.invariant.0.store_fits).0 in
    subst (λ (u : View). IsStopped u a.locks.items) (sym c.in-Err.ensures.stopped) (stop_state c.args.limit here a.locks.items h.0 apart c.in-Err.stop)

pub stopped-halt-requires-clause-records : goal.stopped-halt-requires-clause-records
stopped-halt-requires-clause-records c =
    let a = c.self.inside in
    (ends a.schema.now a.txn.now a.store.now.made a.pass.view a.seen a.locks a.work c.self.invariant.1 c.self.invariant.0.store_fits).1

pub returns-in-Err : goal.returns-in-Err
returns-in-Err c =
    let a = c.self.inside in
    let here : AttemptOf = record { store = a.store.now; tables = a.schema.now; txn = a.txn.now; view = a.pass.view; phase = phase_of a.work } in
    let h = subst (λ (w : Work). WorkFits a.schema.now a.txn.now a.store.now.made a.pass.view a.seen a.locks w) c.in-Locked.is c.self.invariant.1 in
    let e = ends a.schema.now a.txn.now a.store.now.made a.pass.view a.seen a.locks a.work c.self.invariant.1 c.self.invariant.0.store_fits in
    subst (λ (b : AttemptOf). HaltsAs c.args.limit b c.stopped-halt.result.0 (Err c.stopped-halt.result.1)) c.self.view_is
    (halts c.args.limit here a.locks.items h.0 e.0 c.draw_below.new.pass (c.in-Err.ensures.table ∙ c.self.invariant.0.table) e.1 c.in-Err.stop c.in-Err.ensures.stopped c.in-Err.ensures.cause c.stopped-halt.result.0 c.stopped-halt.result.1 c.stopped-halt.ensures)

pub returns-in-Ok-finished : goal.returns-in-Ok-finished
returns-in-Ok-finished c =
    let a = c.self.inside in
    let here : AttemptOf = record { store = a.store.now; tables = a.schema.now; txn = a.txn.now; view = a.pass.view; phase = phase_of a.work } in
    let h = subst (λ (w : Work). WorkFits a.schema.now a.txn.now a.store.now.made a.pass.view a.seen a.locks w) c.in-Locked.is c.self.invariant.1 in
    let told = c.in-Ok.ensures in
    let ran = c.decided.ensures.run in
    subst (λ (b : AttemptOf). (c.finish-finished.new.pass.table ≡ b.store.table) × IsCommitted b c.finish-finished.new.pass.view c.decided.result × (c.decided.result.stamp.seq ≤ c.args.limit)) c.self.view_is (
      c.finish-finished.ensures.table ∙ told.table ∙ c.self.invariant.0.table,
      is_committed here a.locks.items a.seen.items c.in-Locked.reply c.in-Locked.writes h.0 h.1 h.2 h.3 c.in-Ok.seq c.draw_below.new.pass.view told.drawn c.finish-finished.new.pass.view c.decided.result c.decided.ensures.stamp ran.0 ran.1 told.seq told.above told.left c.in-Ok-finished.ensures.committed,
      subst (λ n. n ≤ c.args.limit) (sym (ap (λ (s : Stamp). s.seq) c.decided.ensures.stamp)) told.limit,
    )

pub returns : goal.returns
returns c =
    let a = c.self.inside in
    let here : AttemptOf = record { store = a.store.now; tables = a.schema.now; txn = a.txn.now; view = a.pass.view; phase = phase_of a.work } in
    let h = subst (λ (w : Work). WorkFits a.schema.now a.txn.now a.store.now.made a.pass.view a.seen a.locks w) c.in-Locked.is c.self.invariant.1 in
    let told = c.in-Ok.ensures in
    let end = c.in-Err-finished.ensures in
    subst (λ (b : AttemptOf). (c.finish-finished.new.pass.table ≡ b.store.table) × ((0 < b.view.tries) × (c.finish-finished.new.pass.view ≡ with_loss b.view (why c.in-Err-finished.refusal)) × RefusesCommit b.view c.in-Err-finished.refusal)) c.self.view_is (
      c.finish-finished.ensures.table ∙ told.table ∙ c.self.invariant.0.table,
      is_lost here a.locks.items a.seen.items c.in-Locked.reply c.in-Locked.writes h.0 h.1 h.2 h.3 c.in-Ok.seq c.draw_below.new.pass.view told.drawn c.finish-finished.new.pass.view c.in-Err-finished.refusal told.left (subst (λ (l : List Seen). 0 < length l) c.as_slice.ensures end.some) end.lost (subst (λ (p : List Seen × List Lock). RefusesReads p.0 p.1 c.in-Err-finished.refusal) (λ i. (c.as_slice.ensures i, c.as_slice-2.ensures i)) end.cause),
    )
