-- The end of an attempt that holds its locks.
use Rattle.std.proofs.Common.{◌≡◌, ◌≢◌, ℕ, ◌+◌, ◌^◌, ◌<◌, ◌≤◌, List, [], ◌∷◌, map, length, refl, sym, ap, ◌∙◌, subst}
use Rattle.std.specs.Prelude.{Err}
use lib.Seq.{take-length}
use mathlib.Core.Option.{some, some-ne-none}
use lib.ListN.{get_elem?}
use Rattle.smallvec.specs.SmallVec.{SmallVec}
use Rattle.rl_base.specs.Stamps.{packed}
use Rattle.rl_base.specs.declared.refusal.Refusal.{Refusal}
use Rattle.rl_base.specs.declared.refusal.Refusal.TheVariants.{Locked, Changed}
use Rattle.rl_base.specs.declared.stamp.Stamp.{Stamp}
use Rattle.rl_value.specs.Tables.{Table}
use Rattle.rl_txn.specs.Fits.{AnswerFits}
use Rattle.rl_txn.specs.declared.op.Op.{Op}
use Rattle.rl_txn.specs.declared.write.Reply.{Reply}
use Rattle.rl_txn.specs.declared.write.Write as txn
use Rattle.rl_store.specs.declared.spent.DrawStop.{DrawStop}
use Rattle.rl_store.specs.declared.spent.DrawStop.TheVariants.{Above as AboveStop, TriesSpent as SpentStop}
use Rattle.rl_store.specs.declared.view.Held.{Held}
use Rattle.rl_store.specs.declared.view.View.{View}
use Rattle.rl_store.specs.Entries.{In}
use Rattle.rl_store.specs.Opening.{Made}
use Rattle.rl_store.specs.Passes.{HasReadWord, IsAbove, PassOf}
use Rattle.rl_store.specs.Refusals.{after_stop, StopsDraw, why}
use Rattle.rl_store.specs.Views.{above_at, rested, settled, with_draw}
use Rattle.rl_store.proofs.Marks.{in_map}
use Rattle.rl_occ.specs.declared.attempt.Work.{Work}
use Rattle.rl_occ.specs.declared.attempt.Work.TheVariants as work
use Rattle.rl_occ.specs.declared.outcome.CommitError.{CommitError}
use Rattle.rl_occ.specs.declared.outcome.CommitError.TheVariants.{Refused as RefusedBy, TriesSpent, Above}
use Rattle.rl_occ.specs.declared.outcome.Decided.{Decided}
use Rattle.rl_occ.specs.declared.outcome.Halt.{Halt}
use Rattle.rl_occ.specs.declared.outcome.Halt.TheVariants.{Free, Held as HeldHalt}
use Rattle.rl_occ.specs.declared.sets.Lock.{Lock}
use Rattle.rl_occ.specs.declared.sets.Seen.{Seen}
use Rattle.rl_occ.specs.Attempts.{AttemptOf, HaltsAs, IsAboveLimit, IsCommitted, RefusesCommit, StopsAs, base_of, with_commit, with_loss}
use Rattle.rl_occ.specs.Committing.{all_closed, all_valid, with_refusal}
use Rattle.rl_occ.specs.Fits.{IsStoreOf, rec_of}
use Rattle.rl_occ.specs.Locking.{AreApart, AreBelow, held_of, lock_rec}
use Rattle.rl_occ.specs.Outcomes.{IsStopped, RefusesReads}
use Rattle.rl_occ.specs.Reading.{IsSeen, seen_of}
use Rattle.rl_occ.specs.Working.{HasLocked, HasRun, HasSeen, WorkFits}
use Rattle.rl_occ.proofs.Finishes.{commits, loses}
use Rattle.rl_occ.proofs.Locks.{lock_of_hold, locks_apart, locks_below}
use Rattle.rl_occ.proofs.Phases.{running_held, running_undecided}
use Rattle.rl_occ.proofs.Validations.{stops}

no_lock : (locks : List Lock) → locks ≡ [] → (x : Lock) → In x locks → ⊥
no_lock locks e x i = some-ne-none x (sym (subst (λ l. get_elem? l i.0 ≡ some x) e i.1))

-- the locks at the end of an attempt
pub ends : (tables : List Table) (txn : List Op) (made : Made) (v : View) (seen : SmallVec Seen) (locks : SmallVec Lock) (w : Work) → WorkFits tables txn made v seen locks w → IsStoreOf made tables → AreApart locks.items × AreBelow (length made.columns) locks.items
ends tables txn made v seen locks (work.Begun eval) h of = (λ i j x y p q e. absurd (no_lock locks.items h.3 x (i, p)), λ x i. absurd (no_lock locks.items h.3 x i))
ends tables txn made v seen locks (work.Executed reply writes) h of = (λ i j x y p q e. absurd (no_lock locks.items h.3 x (i, p)), λ x i. absurd (no_lock locks.items h.3 x i))
ends tables txn made v seen locks (work.Locked reply writes) h of =
    let recs = h.3 ∙ ap (map (rec_of tables)) (sym (take-length writes)) in
    (locks_apart tables writes h.2.writes_fit (length writes) locks.items recs, locks_below tables writes h.2.writes_fit (length writes) locks.items recs made of)
ends tables txn made v seen locks work.Stopped h of = (h.0.apart, h.1)

pub seen_below : (tables : List Table) (made : Made) (v : View) (words : List Seen) → HasSeen tables v words → IsStoreOf made tables → (x : Seen) → In x words → x.rec < length made.columns
seen_below tables made v words h of x i =
    let y = in_map seen_of v.attempt.reads i.0 x (subst (λ l. get_elem? l i.0 ≡ some x) (sym h.seen) i.1) in
    subst (λ (p : ℕ × ℕ). p.0 < p.1) (λ j. (ap (λ (s : Seen). s.rec) y.2 j, sym of.records j)) (h.below y.0 y.1)

-- a word that was seen is that of a read
read_under : (v : View) (words : List Seen) → map seen_of v.attempt.reads ≡ words → (rec word : ℕ) → IsSeen words rec word → HasReadWord v rec word
read_under v words seen rec word i =
    let s : Seen = record { rec = rec; word = word } in
    let y = in_map seen_of v.attempt.reads i.0 s (subst (λ l. get_elem? l i.0 ≡ some s) (sym seen) i.1) in
    (y.0, y.1, ap (λ (u : Seen). u.rec) y.2, sym (ap (λ (u : Seen). u.word) y.2))

-- why a read was refused, by what the attempt has read and holds
pub refuses_commit : (v : View) (words : List Seen) (locks : List Lock) → map seen_of v.attempt.reads ≡ words → HasLocked v locks → (refusal : Refusal) → RefusesReads words locks refusal → RefusesCommit v refusal
refuses_commit v words locks seen has (Locked rec found) c = ((c.0.0, read_under v words seen rec c.0.0 c.0.1), c.1, λ h. c.2 (lock_of_hold v locks rec (running_held v locks has) h))
refuses_commit v words locks seen has (Changed rec before found) c = (read_under v words seen rec before c.0, c.1, c.2)

module _ (a : AttemptOf) (locks : List Lock) (words : List Seen) (reply : Reply) (writes : List txn.Write) (has : HasLocked a.view locks) (seen : HasSeen a.tables a.view words) (run : HasRun a.tables a.txn a.view reply writes) (recs : map lock_rec locks ≡ map (rec_of a.tables) writes) (seq : ℕ) where
  abbrev t : ℕ
  t = base_of a + seq

  module _ (drawn : View) (is : drawn ≡ settled (with_draw a.view t)) (w : View) where
    pub is_committed : (d : Decided) → d.stamp ≡ record { epoch = a.store.made.epoch; seq = seq } → d.reply ≡ reply → d.writes ≡ writes → (2 ≤ seq) × (seq + 2 ≤ 2 ^ 40) → IsAbove a.view t → 0 < a.view.tries
        → w ≡ settled (all_closed a.tables (settled (all_valid drawn)) writes) → IsCommitted a w d
    is_committed d stamp replied written bounds above left end = record {
      inside = seen.below;
      run = λ rows r. (λ i. (replied i, written i)) ∙ run.run rows r;
      fits = subst (λ (p : Reply × List txn.Write). AnswerFits a.tables a.txn p.0 p.1) (λ i. (sym replied i, sym written i)) run.fits;
      epoch = ap (λ (s : Stamp). s.epoch) stamp;
      seq = subst (λ (s : Stamp). (2 ≤ s.seq) × (s.seq + 2 ≤ 2 ^ 40)) (sym stamp) bounds;
      above = subst (λ (s : Stamp). IsAbove a.view (packed s)) (sym stamp) above;
      tries = left;
      view = end ∙ ap (λ u. settled (all_closed a.tables (settled (all_valid u)) writes)) is
          ∙ commits a.view locks words has seen.seen seen.once t a.tables writes recs
          ∙ (λ i. with_commit a.tables a.view (packed (sym stamp i)) (sym written i));
    }

    pub is_lost : (refusal : Refusal) → 0 < a.view.tries → 0 < length words → w ≡ with_refusal drawn (why refusal) → RefusesReads words locks refusal → (0 < a.view.tries) × (w ≡ with_loss a.view (why refusal)) × RefusesCommit a.view refusal
    is_lost refusal left some_ end c = (
      left,
      end ∙ ap (λ u. with_refusal u (why refusal)) (is ∙ loses a.view locks words has seen.seen seen.once t some_),
      refuses_commit a.view words locks seen.seen has refusal c,
    )

-- stopped at the draw
module _ (limit : ℕ) (a : AttemptOf) (locks : List Lock) (has : HasLocked a.view locks) (apart : AreApart locks) where
  pub stop_state : (stop : DrawStop) → IsStopped (after_stop (base_of a) a.view stop) locks
  stop_state SpentStop = record { held = running_held a.view locks has; apart = apart; undecided = running_undecided a.view locks has }
  stop_state (AboveStop seq) = (stops (with_draw a.view (base_of a + seq)) locks (above_at seq) (running_held a.view locks has) apart).1

  no_holds : locks ≡ [] → a.view.attempt.held ≡ []
  no_holds e = running_held a.view locks has ∙ ap (map held_of) e

  some_holds : locks ≢ [] → a.view.attempt.held ≢ []
  some_holds ne e = go locks refl
    where
      go : (ls : List Lock) → locks ≡ ls → ⊥
      go [] p = ne p
      go (l ∷ ls) p = cons_is_not_nil (held_of l) (map held_of ls) (sym (ap (map held_of) p) ∙ sym (running_held a.view locks has) ∙ e)
        where
          cons_is_not_nil : (h : Held) (hs : List Held) → h ∷ hs ≡ [] → ⊥
          cons_is_not_nil h hs z = some-ne-none h (ap (λ l. get_elem? l 0) z)

  pub halts : (pass : PassOf) → pass.table ≡ a.store.table → AreBelow (length a.store.made.columns) locks → (stop : DrawStop) → pass.view ≡ after_stop (base_of a) a.view stop → StopsDraw limit a.view.tries stop
      → (halt : Halt) (error : CommitError) → StopsAs pass locks stop halt error → HaltsAs limit a halt (Err error)
  halts pass table below SpentStop is c (Free free) TriesSpent s = (s.0 ∙ table, (c, s.1 ∙ ap rested is))
  halts pass table below SpentStop is c (Free free) (RefusedBy r) s = absurd s
  halts pass table below SpentStop is c (Free free) (Above seq) s = absurd s
  halts pass table below SpentStop is c (HeldHalt halted) error s = absurd s
  halts pass table below (AboveStop seq) is c (Free free) (Above drawn) s =
      (ap (λ (p : PassOf). p.table) s.0 ∙ table, no_holds s.1, subst (IsAboveLimit limit a free.view) (sym s.2) record { limit = c.0; tries = c.1; view = ap (λ (p : PassOf). p.view) s.0 ∙ is })
  halts pass table below (AboveStop seq) is c (Free free) (RefusedBy r) s = absurd s
  halts pass table below (AboveStop seq) is c (Free free) TriesSpent s = absurd s
  halts pass table below (AboveStop seq) is c (HeldHalt halted) (Above drawn) s =
      let view = ap (λ (p : PassOf). p.view) s.0 ∙ is in (
        ap (λ (p : PassOf). p.table) s.0 ∙ table,
        some_holds s.1,
        (λ h i.
            let held = ap (λ (u : View). u.attempt.held) view ∙ (stop_state (AboveStop seq)).held in
            let x = in_map held_of locks i.0 h (subst (λ l. get_elem? l i.0 ≡ some h) held i.1) in
            subst (λ (g : Held). g.rec < length a.store.made.columns) x.2 (below x.0 x.1)),
        subst (IsAboveLimit limit a halted.view) (sym s.2) record { limit = c.0; tries = c.1; view = view },
      )
  halts pass table below (AboveStop seq) is c (HeldHalt halted) (RefusedBy r) s = absurd s
  halts pass table below (AboveStop seq) is c (HeldHalt halted) TriesSpent s = absurd s
