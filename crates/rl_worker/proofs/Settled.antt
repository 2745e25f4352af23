-- Once every stamp up to t is decided or refused, no item with a stamp up to t comes later.
use Rattle.std.proofs.Common.{◌≡◌, ℕ, ◌<◌, ◌≤◌, List, [], ◌∷◌, length, get_or, false, ◌==◌, nat_lt, nat_le, if◌then◌else◌, refl, sym, ap, ◌∙◌, subst, arith, length-set, is_some}
use Rattle.std.proofs.lemmas.Bool.Decides.{nat_tests}
use Rattle.rl_base.proofs.UpdateLemmas.{by_updated}
use Rattle.rl_worker.proofs.States.{Read, Rec, Outcome, Wants, Ends, Phase, Rest, Asking, Wanting, Loading, Locking, Validating, Storing, Refusing, Setting, asked, other}
use Rattle.rl_worker.specs.Items.{CoreItem, insert_by_stamp}
use Rattle.rl_worker.specs.Laws.{early, Above, IsSettled}
use Rattle.rl_worker.specs.Acts.{ActResult, target, act_result, Core, no_rec, phase_of, micro, passing, resting, settle, begin, step, is_done, may, idle, Turn, Step, Idle, turn, after_turns}
use Rattle.rl_worker.specs.Attempts.{next_after}
use Rattle.rl_worker.proofs.Parts.{micro_parts, decided_after, step_on}
use Rattle.rl_worker.proofs.Basics.{by_test}
use Rattle.rl_worker.proofs.Lift.{set_reads}
use Rattle.rl_worker.proofs.Whole.{there}

early_place : (t : ℕ) (x : CoreItem) (xs : List CoreItem) → t < x.stamp → early t (insert_by_stamp x xs) ≡ early t xs
early_place t x [] h = rw (above x.stamp t h) refl
  where
    above : (a b : ℕ) → b < a → nat_le a b ≡ false
    above a b l = grind (arith, nat_tests)
early_place t x (y ∷ ys) h = by_test (λ z. early t z ≡ early t (y ∷ ys)) (nat_lt x.stamp y.stamp) (x ∷ y ∷ ys) (y ∷ insert_by_stamp x ys)
    (λ e. rw (above x.stamp t h) refl)
    (λ e. ap (λ z. if nat_le y.stamp t then y ∷ z else z) (early_place t x ys h))
  where
    above : (a b : ℕ) → b < a → nat_le a b ≡ false
    above a b l = grind (arith, nat_tests)

module _ (S : Setting) (t : ℕ) where
  module _ (c : Core) (w : ℕ) (hw : w < length c.workers) (s : IsSettled t c) where
    abbrev Later : Phase → ActResult → Type 0
    Later p m = (early t (decided_after c.decided m.effect) ≡ early t c.decided) × (c.next ≤ next_after c.next m.effect) × (Above t p → Above t m.phase)

    asked_later : (q : ℕ) (reads : List Read) (o : Outcome) → Above t (asked q reads o)
    asked_later q reads (Wants r) = tt
    asked_later q reads (Ends answer writes) = tt

    later : (p : Phase) → Above t p → (x : Rec) → Later p (act_result S w c.next p x)
    later (Rest q) a x = (refl, omega arith, λ h. tt)
    later (Asking q reads) a x = (refl, omega arith, λ h. asked_later q reads (S.ask w q reads))
    later (Wanting q reads r) a x = by_test (λ z. Later (Wanting q reads r) z) (is_some x.holder) _ _ (λ u. (refl, omega arith, λ h. tt)) (λ u. (refl, omega arith, λ h. tt))
    later (Loading q reads r seen loaded) a x = by_test (λ z. Later (Loading q reads r seen loaded) z) (nat_lt (length loaded) (length x.cells)) _ _
        (λ u. (refl, omega arith, λ h. tt))
        (λ u. by_test (λ z. Later (Loading q reads r seen loaded) z) (is_some x.holder) _ _ (λ f. (refl, omega arith, λ h. tt))
        (λ f. by_test (λ z. Later (Loading q reads r seen loaded) z) (x.stamp == seen) _ _ (λ g. (refl, omega arith, λ h. tt)) (λ g. (refl, omega arith, λ h. tt))))
    later (Locking q reads answer locked (y ∷ todo)) a x = by_test (λ z. Later (Locking q reads answer locked (y ∷ todo)) z) (is_some x.holder) _ _ (λ u. (refl, omega arith, λ h. tt)) (λ u. (refl, omega arith, λ h. tt))
    later (Locking q reads answer locked []) a x = (refl, omega arith, λ h. s.0)
    later (Validating q u done (y ∷ todo) answer writes) a x = by_test (λ z. Later (Validating q u done (y ∷ todo) answer writes) z) (other w x.holder) _ _ (λ f. (refl, omega arith, λ h. tt))
        (λ f. by_test (λ z. Later (Validating q u done (y ∷ todo) answer writes) z) (x.stamp == y.seen) _ _ (λ g. (refl, omega arith, λ h. h)) (λ g. (refl, omega arith, λ h. tt)))
    later (Validating q u done [] answer writes) a x = (early_place t (record { stamp = u; worker = w; index = q; answer = answer; writes = writes }) c.decided a, omega arith, λ h. tt)
    later (Storing item j (y ∷ todo)) a x = by_test (λ z. Later (Storing item j (y ∷ todo)) z) (nat_lt j (length y.row)) _ _ (λ g. (refl, omega arith, λ h. tt)) (λ g. (refl, omega arith, λ h. tt))
    later (Storing item j []) a x = (refl, omega arith, λ h. tt)
    later (Refusing q (y ∷ todo)) a x = (refl, omega arith, λ h. tt)
    later (Refusing q []) a x = (refl, omega arith, λ h. tt)

    micro_settled : IsSettled t (micro S c w) × (early t (micro S c w).decided ≡ early t c.decided) × (w < length (micro S c w).workers)
    micro_settled =
        let p = phase_of c w in
        let m = act_result S w c.next p (get_or c.recs (target p) no_rec) in
        let k = later p (s.1 w) (get_or c.recs (target p) no_rec) in
        subst (λ z. IsSettled t z × (early t z.decided ≡ early t c.decided) × (w < length z.workers)) (sym (micro_parts S c w)) (
          (
            omega (arith, s.0, k.1),
            λ v. subst (λ f. Above t (f v)) (sym (set_reads c.workers w m.phase (Rest 0) hw))
                (by_updated (λ z. Above t z) (λ u. get_or c.workers u (Rest 0)) w m.phase v (λ i. k.2 (s.1 w)) (λ n. s.1 v)),
          ),
          k.0,
          rw length-set hw,
        )

  -- the same after each part of a step
  abbrev Stays : Core → ℕ → Core → Type 0
  Stays c w d = IsSettled t d × (early t d.decided ≡ early t c.decided) × (w < length d.workers)

  micro_stays : (c : Core) (w : ℕ) (d : Core) → Stays c w d → Stays c w (micro S d w)
  micro_stays c w d h = let k = micro_settled d w h.2 h.0 in (k.0, k.1 ∙ h.1, k.2)

  settle_stays : (c : Core) (w : ℕ) (d : Core) → Stays c w d → Stays c w (settle S d w)
  settle_stays c w d h = by_test (λ z. Stays c w z) (passing (phase_of d w)) (micro S d w) d (λ e. micro_stays c w d h) (λ e. h)

  begin_stays : (c : Core) (w : ℕ) (d : Core) → Stays c w d → Stays c w (begin S d w)
  begin_stays c w d h = by_test (λ z. Stays c w z) (resting (phase_of d w)) (micro S (micro S d w) w) d (λ e. micro_stays c w (micro S d w) (micro_stays c w d h)) (λ e. h)

  turn_stays : (c : Core) (x : Turn) → IsSettled t c → IsSettled t (turn S c x) × (early t (turn S c x).decided ≡ early t c.decided)
  turn_stays c (Step w) s = by_test (λ z. IsSettled t z × (early t z.decided ≡ early t c.decided)) (may S c w) (step S c w) c
      (λ e. by_test (λ z. IsSettled t z × (early t z.decided ≡ early t c.decided)) (is_done S w (phase_of c w)) c (step_on S c w) (λ d. (s, refl))
      (λ d. let k = settle_stays c w (settle S (micro S (begin S c w) w) w) (settle_stays c w (micro S (begin S c w) w) (micro_stays c w (begin S c w) (begin_stays c w c (s, refl, there S c w e)))) in (k.0, k.1))) (λ e. (s, refl))
  turn_stays c (Idle w) s = by_test (λ z. IsSettled t z × (early t z.decided ≡ early t c.decided)) (may S c w) (idle c w) c
      (λ e. by_test (λ z. IsSettled t z × (early t z.decided ≡ early t c.decided)) (resting (phase_of c w)) _ _ (λ f. ((omega (arith, s.0), s.1), refl)) (λ f. (s, refl))) (λ e. (s, refl))

  pub settled_for_good : (xs : List Turn) (c : Core) → IsSettled t c → early t (after_turns S c xs).decided ≡ early t c.decided
  settled_for_good [] c s = refl
  settled_for_good (x ∷ xs) c s = let k = turn_stays c x s in settled_for_good xs (turn S c x) k.0 ∙ k.1
