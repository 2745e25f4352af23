-- From phase to phase.
use Rattle.std.proofs.Common.{◌≡◌, List, [], map, take, length, refl, sym, ap, ◌∙◌, subst, arith}
use lib.Seq.{take_all}
use Rattle.rl_base.specs.declared.refusal.Refusal.{Refusal}
use Rattle.rl_value.specs.Tables.{Table}
use Rattle.rl_txn.specs.declared.op.Op.{Op}
use Rattle.rl_txn.specs.declared.write.Reply.{Reply}
use Rattle.rl_txn.specs.declared.write.Write.{Write}
use Rattle.rl_store.specs.declared.view.Refused.{Refused}
use Rattle.rl_store.specs.declared.view.View.{View}
use Rattle.rl_store.specs.Entries.{IsDecided}
use Rattle.rl_store.specs.Views.{stopped}
use Rattle.rl_store.proofs.Loads.{Some≢None}
use Rattle.rl_occ.specs.declared.sets.Lock.{Lock}
use Rattle.rl_occ.specs.declared.sets.Seen.{Seen}
use Rattle.rl_occ.specs.Attempts.{RefusesOther}
use Rattle.rl_occ.specs.Fits.{AreWrites, rec_of}
use Rattle.rl_occ.specs.Locking.{AreApart, RefusesLock, held_of, lock_rec, with_locks}
use Rattle.rl_occ.specs.Outcomes.{HasRefused, IsStopped}
use Rattle.rl_occ.specs.Working.{HasLocked, HasRun, HasSeen}
use Rattle.rl_occ.proofs.Locks.{lock_of_hold, locks_apart}
use Rattle.rl_occ.proofs.Validations.{stops}

-- the locks are taken
module _ (tables : List Table) (txn : List Op) (v w : View) (words : List Seen) (locks : List Lock) (reply : Reply) (writes : List Write) (is : w ≡ with_locks v locks) where
  pub locked : HasLocked v [] → HasLocked w locks
  locked has = subst (λ u. HasLocked u locks) (sym is) (λ i. record (has i) { reads = v.attempt.reads; held = map held_of locks })

  pub still_seen : HasSeen tables v words → HasSeen tables w words
  still_seen h = subst (λ u. HasSeen tables u words) (sym is) record { seen = h.seen; once = h.once; below = h.below }

  pub still_run : HasRun tables txn v reply writes → HasRun tables txn w reply writes
  still_run h = subst (λ u. HasRun tables txn u reply writes) (sym is) record { run = h.run; writes_fit = h.writes_fit; fits = h.fits }

pub all_recs : (tables : List Table) (writes : List Write) (locks : List Lock) → map lock_rec locks ≡ map (rec_of tables) (take (length locks) writes) → length locks ≡ length writes → map lock_rec locks ≡ map (rec_of tables) writes
all_recs tables writes locks e n = e ∙ ap (map (rec_of tables)) (take_all (length locks) writes (let z = n in omega arith))

-- a lock is refused
module _ (tables : List Table) (v w : View) (locks : List Lock) (writes : List Write) (why : Refused) (is : w ≡ stopped (map held_of locks) (with_locks v locks) why) (fit : AreWrites tables writes) (recs : map lock_rec locks ≡ map (rec_of tables) (take (length locks) writes)) where
  apart : AreApart locks
  apart = locks_apart tables writes fit (length locks) locks recs

  pub stopped_so : IsStopped w locks
  stopped_so = subst (λ u. IsStopped u locks) (sym is) (stops (with_locks v locks) locks why refl apart).1

  pub refused_so : HasRefused v w why
  refused_so = subst (λ u. HasRefused v u why) (sym is) (let h = (stops (with_locks v locks) locks why refl apart).0 in record { refusals = h.refusals; last = h.last; items = h.items; splits = h.splits })

  pub charged_so : (w.tries ≡ v.tries) × (w.draws ≡ v.draws)
  charged_so = let h = stops (with_locks v locks) locks why refl apart in (ap (λ (u : View). u.tries) is ∙ h.2, ap (λ (u : View). u.draws) is ∙ h.3)

  pub other_so : (refusal : Refusal) → RefusesLock locks refusal → RefusesOther w refusal
  other_so refusal c = (c.0, c.1, λ h. c.2 (lock_of_hold w locks c.0 stopped_so.held h))

-- what an attempt has at its end, by its phase
pub running_held : (v : View) (locks : List Lock) → HasLocked v locks → v.attempt.held ≡ map held_of locks
running_held v locks has = ap (λ a. a.held) has

pub running_undecided : (v : View) (locks : List Lock) → HasLocked v locks → IsDecided v.attempt → ⊥
running_undecided v locks has d = Some≢None d.0 (sym d.1 ∙ ap (λ a. a.drawn) has)
