-- Each worker's stamps rise, over its items and idle draws.
use Rattle.std.proofs.Common.{◌≡◌, ◌≢◌, ℕ, suc, ◌<◌, ◌≤◌, List, [], ◌∷◌, length, get_or, true, ◌==◌, nat_lt, refl, sym, ap, subst, arith, inl, inr, true≢false, length-set, is_some}
use Rattle.std.proofs.lemmas.Bool.Decides.{eqb_tells}
use Rattle.rl_base.specs.Lists.{updated}
use Rattle.rl_base.proofs.UpdateLemmas.{by_updated}
use Rattle.rl_worker.proofs.States.{Answer, Read, Install, Rec, Outcome, Wants, Ends, Phase, Rest, Asking, Wanting, Loading, Locking, Validating, Storing, Refusing, Setting, asked, other}
use Rattle.rl_worker.specs.Acts.{ActResult, target, act_result, Core, no_rec, phase_of, opening_core, idle, resting, micro, passing, settle, begin, step, is_done, may, Turn, Step, Idle, turn, after_turns}
use Rattle.rl_worker.specs.Attempts.{next_after}
use Rattle.rl_worker.proofs.Parts.{micro_parts, made_after, parts, micro_at, step_on}
use Rattle.rl_worker.specs.Laws.{stamps_by, AllUnder, IsFalling, DrawnAbove, IsBelowNext}
use Rattle.rl_worker.proofs.OwnLaw.{AllRest}
use Rattle.rl_worker.proofs.Whole.{there}
use Rattle.rl_worker.proofs.Basics.{by_test, rest_at}
use Rattle.rl_worker.proofs.Lift.{set_reads}

under_up : (t u : ℕ) (xs : List ℕ) → t ≤ u → AllUnder t xs → AllUnder u xs
under_up t u [] l h = tt
under_up t u (x ∷ xs) l h = (omega (arith, h.0), under_up t u xs l h.1)

above_up : (p : Phase) (xs : List ℕ) (n : ℕ) → DrawnAbove p xs n → DrawnAbove p xs (suc n)
above_up (Rest q) xs n h = tt
above_up (Asking q reads) xs n h = tt
above_up (Wanting q reads r) xs n h = tt
above_up (Loading q reads r seen loaded) xs n h = tt
above_up (Locking q reads answer locked todo) xs n h = tt
above_up (Validating q t done todo answer writes) xs n h = (omega (arith, h.0), h.1)
above_up (Storing item j todo) xs n h = tt
above_up (Refusing q todo) xs n h = tt

above_rest : (p : Phase) (xs : List ℕ) (n : ℕ) → resting p ≡ true → DrawnAbove p xs n
above_rest (Rest q) xs n h = tt
above_rest (Asking q reads) xs n h = absurd (true≢false (sym h))
above_rest (Wanting q reads r) xs n h = absurd (true≢false (sym h))
above_rest (Loading q reads r seen loaded) xs n h = absurd (true≢false (sym h))
above_rest (Locking q reads answer locked todo) xs n h = absurd (true≢false (sym h))
above_rest (Validating q t done todo answer writes) xs n h = absurd (true≢false (sym h))
above_rest (Storing item j todo) xs n h = absurd (true≢false (sym h))
above_rest (Refusing q todo) xs n h = absurd (true≢false (sym h))

stamps_own : (v w t : ℕ) (xs : List (ℕ × ℕ)) → v ≡ w → stamps_by v ((w, t) ∷ xs) ≡ t ∷ stamps_by w xs
stamps_own v w t xs e = elim (eqb_tells w v) [ inl i ↦ rw i.0 (ap (λ z. t ∷ stamps_by z xs) e) | inr n ↦ absurd (n.1 (sym e)) ]

stamps_other : (v w t : ℕ) (xs : List (ℕ × ℕ)) → v ≢ w → stamps_by v ((w, t) ∷ xs) ≡ stamps_by v xs
stamps_other v w t xs n = elim (eqb_tells w v) [ inl i ↦ absurd (n (sym i.1)) | inr m ↦ rw m.0 refl ]

pub record MadeOk (c : Core) : Type 0 where
  pub falling : (w : ℕ) → IsFalling (stamps_by w c.made)
  pub below : (w : ℕ) → AllUnder c.next (stamps_by w c.made)
  pub drawn : (w : ℕ) → DrawnAbove (phase_of c w) (stamps_by w c.made) c.next

module _ (S : Setting) (c : Core) (g : MadeOk c) (w : ℕ) (hw : w < length c.workers) where
  phase_after : (k : ℕ) (m : ActResult) (v : ℕ) → phase_of (parts c w k m) v ≡ updated (λ u. get_or c.workers u (Rest 0)) w m.phase v
  phase_after k m v = ap (λ f. f v) (set_reads c.workers w m.phase (Rest 0) hw)

  -- an act that makes and draws nothing
  plain : (k : ℕ) (p : Phase) (m : ActResult) → phase_of c w ≡ p → made_after c.made m.effect ≡ c.made → next_after c.next m.effect ≡ c.next
      → (DrawnAbove p (stamps_by w c.made) c.next → DrawnAbove m.phase (stamps_by w c.made) c.next) → MadeOk (parts c w k m)
  plain k p m e d n late = record {
    falling = λ v. rw d (g.falling v);
    below = λ v. rw (d, n) (g.below v);
    drawn = λ v. rw (phase_after, d, n) (by_updated (λ z. DrawnAbove z (stamps_by v c.made) c.next) (λ u. get_or c.workers u (Rest 0)) w m.phase v
        (λ i. rw i (late (rw e at (g.drawn w)))) (λ o. g.drawn v));
  }

  drew : (q : ℕ) (reads : List Read) (answer : Answer) (locked : List Install) (x : Rec) → phase_of c w ≡ Locking q reads answer locked []
      → MadeOk (parts c w 0 (act_result S w c.next (Locking q reads answer locked []) x))
  drew q reads answer locked x e =
      let m = act_result S w c.next (Locking q reads answer locked []) x in
      record {
        falling = g.falling;
        below = λ v. under_up c.next (suc c.next) (stamps_by v c.made) (omega arith) (g.below v);
        drawn = λ v. rw phase_after (by_updated (λ z. DrawnAbove z (stamps_by v c.made) (suc c.next)) (λ u. get_or c.workers u (Rest 0)) w m.phase v
            (λ i. (omega arith, g.below v)) (λ o. above_up (phase_of c v) (stamps_by v c.made) c.next (g.drawn v)));
      }

  won : (q t : ℕ) (done : List Read) (answer : Answer) (writes : List Install) (x : Rec) → phase_of c w ≡ Validating q t done [] answer writes
      → MadeOk (parts c w 0 (act_result S w c.next (Validating q t done [] answer writes) x))
  won q t done answer writes x e =
      let m = act_result S w c.next (Validating q t done [] answer writes) x in
      let mine : DrawnAbove (Validating q t done [] answer writes) (stamps_by w c.made) c.next = rw e at (g.drawn w) in
      record {
        falling = λ v. elim (eqb_tells v w) [
          | inl i ↦ subst IsFalling (sym (stamps_own v w t c.made i.1)) (mine.1, g.falling w)
          | inr n ↦ rw (stamps_other v w t c.made n.1) (g.falling v)
        ];
        below = λ v. elim (eqb_tells v w) [
          | inl i ↦ subst (AllUnder c.next) (sym (stamps_own v w t c.made i.1)) (mine.0, g.below w)
          | inr n ↦ rw (stamps_other v w t c.made n.1) (g.below v)
        ];
        drawn = λ v. rw phase_after (by_updated (λ z. DrawnAbove z (stamps_by v ((w, t) ∷ c.made)) c.next) (λ u. get_or c.workers u (Rest 0)) w m.phase v
            (λ i. tt) (λ o. rw (stamps_other v w t c.made o) (g.drawn v)));
      }

  abbrev IsPlain : Phase → ActResult → Type 0
  IsPlain p m = (made_after c.made m.effect ≡ c.made) × (next_after c.next m.effect ≡ c.next) × (DrawnAbove p (stamps_by w c.made) c.next → DrawnAbove m.phase (stamps_by w c.made) c.next)

  plain_at : (p : Phase) → phase_of c w ≡ p → IsPlain p (act_result S w c.next p (get_or c.recs (target p) no_rec)) → MadeOk (micro_at S c w p)
  plain_at p e h = plain (target p) p (act_result S w c.next p (get_or c.recs (target p) no_rec)) e h.0 h.1 h.2

  asked_above : (q : ℕ) (reads : List Read) (o : Outcome) → DrawnAbove (asked q reads o) (stamps_by w c.made) c.next
  asked_above q reads (Wants r) = tt
  asked_above q reads (Ends answer writes) = tt

  pub micro_made : (p : Phase) → phase_of c w ≡ p → MadeOk (micro_at S c w p)
  micro_made (Rest q) e = plain_at (Rest q) e (refl, refl, λ h. tt)
  micro_made (Asking q reads) e = plain_at (Asking q reads) e (refl, refl, λ h. asked_above q reads (S.ask w q reads))
  micro_made (Wanting q reads r) e = plain_at (Wanting q reads r) e
      (by_test (λ z. IsPlain (Wanting q reads r) z) (is_some (get_or c.recs r no_rec).holder) _ _ (λ t. (refl, refl, λ h. tt)) (λ t. (refl, refl, λ h. tt)))
  micro_made (Loading q reads r seen loaded) e = plain_at (Loading q reads r seen loaded) e
      (by_test (λ z. IsPlain (Loading q reads r seen loaded) z) (nat_lt (length loaded) (length (get_or c.recs r no_rec).cells)) _ _
      (λ t. (refl, refl, λ h. tt))
      (λ t. by_test (λ z. IsPlain (Loading q reads r seen loaded) z) (is_some (get_or c.recs r no_rec).holder) _ _ (λ f. (refl, refl, λ h. tt))
      (λ f. by_test (λ z. IsPlain (Loading q reads r seen loaded) z) ((get_or c.recs r no_rec).stamp == seen) _ _ (λ s. (refl, refl, λ h. tt)) (λ s. (refl, refl, λ h. tt)))))
  micro_made (Locking q reads answer locked (y ∷ todo)) e = plain_at (Locking q reads answer locked (y ∷ todo)) e
      (by_test (λ z. IsPlain (Locking q reads answer locked (y ∷ todo)) z) (is_some (get_or c.recs y.rec no_rec).holder) _ _ (λ t. (refl, refl, λ h. tt)) (λ t. (refl, refl, λ h. tt)))
  micro_made (Locking q reads answer locked []) e = drew q reads answer locked (get_or c.recs 0 no_rec) e
  micro_made (Validating q t done (y ∷ todo) answer writes) e = plain_at (Validating q t done (y ∷ todo) answer writes) e
      (by_test (λ z. IsPlain (Validating q t done (y ∷ todo) answer writes) z) (other w (get_or c.recs y.rec no_rec).holder) _ _ (λ f. (refl, refl, λ h. tt))
      (λ f. by_test (λ z. IsPlain (Validating q t done (y ∷ todo) answer writes) z) ((get_or c.recs y.rec no_rec).stamp == y.seen) _ _
      (λ s. (refl, refl, λ h. h)) (λ s. (refl, refl, λ h. tt))))
  micro_made (Validating q t done [] answer writes) e = won q t done answer writes (get_or c.recs 0 no_rec) e
  micro_made (Storing item j (y ∷ todo)) e = plain_at (Storing item j (y ∷ todo)) e
      (by_test (λ z. IsPlain (Storing item j (y ∷ todo)) z) (nat_lt j (length y.row)) _ _ (λ s. (refl, refl, λ h. tt)) (λ s. (refl, refl, λ h. tt)))
  micro_made (Storing item j []) e = plain_at (Storing item j []) e (refl, refl, λ h. tt)
  micro_made (Refusing q (y ∷ todo)) e = plain_at (Refusing q (y ∷ todo)) e (refl, refl, λ h. tt)
  micro_made (Refusing q []) e = plain_at (Refusing q []) e (refl, refl, λ h. tt)

  micro_there : w < length (micro_at S c w (phase_of c w)).workers
  micro_there = rw length-set hw

module _ (S : Setting) where
  micro_ok : (c : Core) (w : ℕ) → w < length c.workers → MadeOk c → MadeOk (micro S c w) × (w < length (micro S c w).workers)
  micro_ok c w h g = subst (λ z. MadeOk z × (w < length z.workers)) (sym (micro_parts S c w)) (micro_made S c g w h (phase_of c w) refl, micro_there S c g w h)

  settle_ok : (c : Core) (w : ℕ) → w < length c.workers → MadeOk c → MadeOk (settle S c w) × (w < length (settle S c w).workers)
  settle_ok c w h g = by_test (λ z. MadeOk z × (w < length z.workers)) (passing (phase_of c w)) (micro S c w) c (λ t. micro_ok c w h g) (λ t. (g, h))

  begin_ok : (c : Core) (w : ℕ) → w < length c.workers → MadeOk c → MadeOk (begin S c w) × (w < length (begin S c w).workers)
  begin_ok c w h g = by_test (λ z. MadeOk z × (w < length z.workers)) (resting (phase_of c w)) (micro S (micro S c w) w) c
      (λ t. let a = micro_ok c w h g in micro_ok (micro S c w) w a.1 a.0) (λ t. (g, h))

  step_ok : (c : Core) (w : ℕ) → w < length c.workers → MadeOk c → MadeOk (step S c w)
  step_ok c w h g = by_test (λ z. MadeOk z) (is_done S w (phase_of c w)) c (step_on S c w) (λ t. g) (λ t.
      let a = begin_ok c w h g in
      let b = micro_ok (begin S c w) w a.1 a.0 in
      let d = settle_ok (micro S (begin S c w) w) w b.1 b.0 in
      (settle_ok (settle S (micro S (begin S c w) w) w) w d.1 d.0).0)

  idle_ok : (c : Core) (w : ℕ) → MadeOk c → MadeOk (idle c w)
  idle_ok c w g = by_test (λ z. MadeOk z) (resting (phase_of c w)) _ _
      (λ t. record {
        falling = λ v. elim (eqb_tells v w) [
          | inl i ↦ subst IsFalling (sym (stamps_own v w c.next c.made i.1)) (g.below w, g.falling w)
          | inr n ↦ rw (stamps_other v w c.next c.made n.1) (g.falling v)
        ];
        below = λ v. elim (eqb_tells v w) [
          | inl i ↦ subst (AllUnder (suc c.next)) (sym (stamps_own v w c.next c.made i.1)) (omega arith, under_up c.next (suc c.next) (stamps_by w c.made) (omega arith) (g.below w))
          | inr n ↦ rw (stamps_other v w c.next c.made n.1) (under_up c.next (suc c.next) (stamps_by v c.made) (omega arith) (g.below v))
        ];
        drawn = λ v. elim (eqb_tells v w) [
          | inl i ↦ above_rest (phase_of c v) _ (suc c.next) (rw i.1 t)
          | inr n ↦ rw (stamps_other v w c.next c.made n.1) (above_up (phase_of c v) (stamps_by v c.made) c.next (g.drawn v))
        ];
      })
      (λ t. g)

  turn_ok : (c : Core) (t : Turn) → MadeOk c → MadeOk (turn S c t)
  turn_ok c (Step w) g = by_test (λ z. MadeOk z) (may S c w) (step S c w) c (λ t. step_ok c w (there S c w t) g) (λ t. g)
  turn_ok c (Idle w) g = by_test (λ z. MadeOk z) (may S c w) (idle c w) c (λ t. idle_ok c w g) (λ t. g)

  run_ok : (ts : List Turn) (c : Core) → MadeOk c → MadeOk (after_turns S c ts)
  run_ok [] c g = g
  run_ok (t ∷ ts) c g = run_ok ts (turn S c t) (turn_ok c t g)

  made_ok : (recs : List Rec) (workers : List Phase) (turns : List Turn) → AllRest workers → MadeOk (after_turns S (opening_core S recs workers) turns)
  made_ok recs workers turns h = run_ok turns (opening_core S recs workers) (record {
    falling = λ v. tt;
    below = λ v. tt;
    drawn = λ v. above_rest (get_or workers v (Rest 0)) [] S.base (rest_at workers v h);
  })

  -- the stamps of each worker rise from the opening on
  pub stamps_rise : (recs : List Rec) (workers : List Phase) (turns : List Turn) → AllRest workers → (w : ℕ) → IsFalling (stamps_by w (after_turns S (opening_core S recs workers) turns).made)
  stamps_rise recs workers turns h w = (made_ok recs workers turns h).falling w

  pub stamps_below : (recs : List Rec) (workers : List Phase) (turns : List Turn) → AllRest workers → (w : ℕ) → IsBelowNext w (after_turns S (opening_core S recs workers) turns)
  stamps_below recs workers turns h w = ((made_ok recs workers turns h).below w, (made_ok recs workers turns h).drawn w)
