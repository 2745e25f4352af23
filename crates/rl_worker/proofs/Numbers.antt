-- Each worker's items are its requests, in order and none twice.
use Rattle.std.proofs.Common.{◌≡◌, ◌≢◌, ℕ, zero, suc, ◌+◌, ◌<◌, ◌≤◌, List, [], ◌∷◌, ◌++◌, length, get_or, ◌==◌, nat_lt, if◌then◌else◌, refl, sym, ap, ◌∙◌, arith, inl, inr, length-set, is_some}
use Rattle.std.proofs.lemmas.Bool.Decides.{eqb_tells}
use Rattle.rl_base.specs.Lists.{updated}
use Rattle.rl_base.proofs.UpdateLemmas.{updated_same, updated_other, by_updated}
use Rattle.rl_worker.proofs.States.{Answer, Read, Install, Rec, Outcome, Wants, Ends, Phase, Rest, Asking, Wanting, Loading, Locking, Validating, Storing, Refusing, Setting, asked, other}
use Rattle.rl_worker.specs.Items.{CoreItem, insert_by_stamp}
use Rattle.rl_worker.specs.Acts.{ActResult, target, act_result, Core, no_rec, phase_of, opening_core, idle, resting}
use Rattle.rl_worker.specs.Attempts.{next_after}
use Rattle.rl_worker.proofs.Parts.{decided_after, parts, micro_at}
use Rattle.rl_worker.proofs.OwnLaw.{Rising, indexes, upto, InLists}
use Rattle.rl_worker.proofs.Basics.{by_test, test_lt}
use Rattle.rl_worker.proofs.Lift.{set_reads}

-- the index of the request to come, once the present attempt is decided or not
abbrev pub number : Phase → ℕ
number (Rest q) = q
number (Asking q reads) = q
number (Wanting q reads r) = q
number (Loading q reads r seen loaded) = q
number (Locking q reads answer locked todo) = q
number (Validating q t done todo answer writes) = q
number (Storing item j todo) = suc item.index
number (Refusing q todo) = q

abbrev pub BelowOf : ℕ → ℕ → List CoreItem → Type 0
BelowOf w t [] = ℕ
BelowOf w t (x ∷ xs) = (x.worker ≡ w → x.stamp < t) × BelowOf w t xs

abbrev pub AllBelow : ℕ → List CoreItem → Type 0
AllBelow t [] = ℕ
AllBelow t (x ∷ xs) = (x.stamp < t) × AllBelow t xs

-- a drawn stamp is above what this worker has decided
abbrev pub Latest : Phase → ℕ → List CoreItem → ℕ → Type 0
Latest (Rest q) w xs n = ℕ
Latest (Asking q reads) w xs n = ℕ
Latest (Wanting q reads r) w xs n = ℕ
Latest (Loading q reads r seen loaded) w xs n = ℕ
Latest (Locking q reads answer locked todo) w xs n = ℕ
Latest (Validating q t done todo answer writes) w xs n = (t < n) × BelowOf w t xs
Latest (Storing item j todo) w xs n = ℕ
Latest (Refusing q todo) w xs n = ℕ

pub below_of : (w t : ℕ) (xs : List CoreItem) → AllBelow t xs → BelowOf w t xs
below_of w t [] h = 0
below_of w t (x ∷ xs) h = (λ e. h.0, below_of w t xs h.1)

pub all_below_up : (t u : ℕ) (xs : List CoreItem) → t ≤ u → AllBelow t xs → AllBelow u xs
all_below_up t u [] l h = 0
all_below_up t u (x ∷ xs) l h = (omega (arith, h.0), all_below_up t u xs l h.1)

pub all_below_place : (t : ℕ) (x : CoreItem) (xs : List CoreItem) → x.stamp < t → AllBelow t xs → AllBelow t (insert_by_stamp x xs)
all_below_place t x [] l h = (l, 0)
all_below_place t x (y ∷ ys) l h = by_test (λ z. AllBelow t z) (nat_lt x.stamp y.stamp) (x ∷ y ∷ ys) (y ∷ insert_by_stamp x ys) (λ e. (l, h)) (λ e. (h.0, all_below_place t x ys l h.1))

pub below_of_place : (w t : ℕ) (x : CoreItem) (xs : List CoreItem) → x.worker ≢ w → BelowOf w t xs → BelowOf w t (insert_by_stamp x xs)
below_of_place w t x [] n h = (λ e. absurd (n e), 0)
below_of_place w t x (y ∷ ys) n h = by_test (λ z. BelowOf w t z) (nat_lt x.stamp y.stamp) (x ∷ y ∷ ys) (y ∷ insert_by_stamp x ys) (λ e. (λ i. absurd (n i), h)) (λ e. (h.0, below_of_place w t x ys n h.1))

indexes_place_other : (w : ℕ) (x : CoreItem) (xs : List CoreItem) → x.worker ≢ w → indexes w (insert_by_stamp x xs) ≡ indexes w xs
indexes_place_other w x [] n = elim (eqb_tells x.worker w) [ inl e ↦ absurd (n e.1) | inr e ↦ rw e.0 refl ]
indexes_place_other w x (y ∷ ys) n = by_test (λ z. indexes w z ≡ indexes w (y ∷ ys)) (nat_lt x.stamp y.stamp) (x ∷ y ∷ ys) (y ∷ insert_by_stamp x ys)
    (λ e. elim (eqb_tells x.worker w) [ inl i ↦ absurd (n i.1) | inr i ↦ rw i.0 refl ])
    (λ e. ap (λ z. if y.worker == w then y.index ∷ z else z) (indexes_place_other w x ys n))

none_after : (w t : ℕ) (xs : List CoreItem) → Rising t xs → BelowOf w t xs → indexes w xs ≡ []
none_after w t [] r h = refl
none_after w t (x ∷ xs) r h = elim (eqb_tells x.worker w) [
  | inl e ↦ absurd (omega (arith, h.0 e.1, r.0))
  | inr e ↦ rw e.0 (none_after w t xs (rising_down t (suc x.stamp) xs (omega (arith, r.0)) r.1) h.1)
]
  where
    rising_down : (a b : ℕ) (ys : List CoreItem) → a ≤ b → Rising b ys → Rising a ys
    rising_down a b [] l k = 0
    rising_down a b (y ∷ ys) l k = (omega (arith, k.0), k.1)

indexes_place : (w b : ℕ) (x : CoreItem) (xs : List CoreItem) → x.worker ≡ w → Rising b xs → BelowOf w x.stamp xs → indexes w (insert_by_stamp x xs) ≡ indexes w xs ++ x.index ∷ []
indexes_place w b x [] i r h = elim (eqb_tells x.worker w) [ inl e ↦ rw e.0 refl | inr e ↦ absurd (e.1 i) ]
indexes_place w b x (y ∷ ys) i r h = by_test (λ z. indexes w z ≡ indexes w (y ∷ ys) ++ x.index ∷ []) (nat_lt x.stamp y.stamp) (x ∷ y ∷ ys) (y ∷ insert_by_stamp x ys)
    (λ e. let less = test_lt x.stamp y.stamp e in
    let none : indexes w (y ∷ ys) ≡ [] = none_after w x.stamp (y ∷ ys) (omega arith, r.1) h in
    elim (eqb_tells x.worker w) [ inl k ↦ rw (k.0, none) refl | inr k ↦ absurd (k.1 i) ])
    (λ e. let later = indexes_place w (suc y.stamp) x ys i r.1 h.1 in
    elim (eqb_tells y.worker w) [ inl k ↦ rw k.0 (ap (λ z. y.index ∷ z) later) | inr k ↦ rw k.0 later ])

upto_more : (a n : ℕ) → upto a (suc n) ≡ upto a n ++ (a + n) ∷ []
upto_more a zero = ap (λ z. z ∷ []) (omega arith)
upto_more a (suc n) = ap (λ z. a ∷ z) (upto_more (suc a) n ∙ ap (λ z. upto (suc a) n ++ z ∷ []) (omega arith))

module _ (first : ℕ → ℕ) where
  pub record Numbered (c : Core) : Type 0 where
    pub count : ℕ → ℕ
    pub lists : (w : ℕ) → indexes w c.decided ≡ upto (first w) (count w)
    pub numbers : (w : ℕ) → w < length c.workers → number (phase_of c w) ≡ first w + count w
    pub latest : (w : ℕ) → Latest (phase_of c w) w c.decided c.next
    pub below : AllBelow c.next c.decided

  module _ (S : Setting) (c : Core) (b : ℕ) (rise : Rising b c.decided) (g : Numbered c) (w : ℕ) (hw : w < length c.workers) where
    phase_after : (k : ℕ) (m : ActResult) (v : ℕ) → phase_of (parts c w k m) v ≡ updated (λ u. get_or c.workers u (Rest 0)) w m.phase v
    phase_after k m v = ap (λ f. f v) (set_reads c.workers w m.phase (Rest 0) hw)

    -- an act that decides and draws nothing
    plain : (k : ℕ) (p : Phase) (m : ActResult) → phase_of c w ≡ p → decided_after c.decided m.effect ≡ c.decided → next_after c.next m.effect ≡ c.next
        → number m.phase ≡ number p → (Latest p w c.decided c.next → Latest m.phase w c.decided c.next) → Numbered (parts c w k m)
    plain k p m e d n same late = record {
      count = g.count;
      lists = λ v. rw d (g.lists v);
      numbers = λ v l. rw phase_after (by_updated (λ z. number z ≡ first v + g.count v) (λ u. get_or c.workers u (Rest 0)) w m.phase v
          (λ i. same ∙ ap number (sym e) ∙ g.numbers w hw ∙ ap (λ z. first z + g.count z) (sym i)) (λ o. g.numbers v (rw length-set at l)));
      latest = λ v. rw (phase_after, d, n) (by_updated (λ z. Latest z v c.decided c.next) (λ u. get_or c.workers u (Rest 0)) w m.phase v
          (λ i. rw i (late (rw e at (g.latest w)))) (λ o. g.latest v));
      below = rw (d, n) g.below;
    }

    drew : (q : ℕ) (reads : List Read) (answer : Answer) (locked : List Install) (x : Rec) → phase_of c w ≡ Locking q reads answer locked []
        → Numbered (parts c w 0 (act_result S w c.next (Locking q reads answer locked []) x))
    drew q reads answer locked x e =
        let m = act_result S w c.next (Locking q reads answer locked []) x in
        record {
          count = g.count;
          lists = g.lists;
          numbers = λ v l. rw phase_after (by_updated (λ z. number z ≡ first v + g.count v) (λ u. get_or c.workers u (Rest 0)) w m.phase v
              (λ i. ap number (sym e) ∙ g.numbers w hw ∙ ap (λ z. first z + g.count z) (sym i)) (λ o. g.numbers v (rw length-set at l)));
          latest = λ v. rw phase_after (by_updated (λ z. Latest z v c.decided (suc c.next)) (λ u. get_or c.workers u (Rest 0)) w m.phase v
              (λ i. (omega arith, below_of v c.next c.decided g.below)) (λ o. latest_up (phase_of c v) v (g.latest v)));
          below = all_below_up c.next (suc c.next) c.decided (omega arith) g.below;
        }
      where
        latest_up : (p : Phase) (v : ℕ) → Latest p v c.decided c.next → Latest p v c.decided (suc c.next)
        latest_up (Rest q) v h = 0
        latest_up (Asking q reads) v h = 0
        latest_up (Wanting q reads r) v h = 0
        latest_up (Loading q reads r seen loaded) v h = 0
        latest_up (Locking q reads answer locked todo) v h = 0
        latest_up (Validating q t done todo answer writes) v h = (omega (arith, h.0), h.1)
        latest_up (Storing item j todo) v h = 0
        latest_up (Refusing q todo) v h = 0

    won : (q t : ℕ) (done : List Read) (answer : Answer) (writes : List Install) (x : Rec) → phase_of c w ≡ Validating q t done [] answer writes
        → Numbered (parts c w 0 (act_result S w c.next (Validating q t done [] answer writes) x))
    won q t done answer writes x e =
        let m = act_result S w c.next (Validating q t done [] answer writes) x in
        let y : CoreItem = record { stamp = t; worker = w; index = q; answer = answer; writes = writes } in
        let mine : Latest (Validating q t done [] answer writes) w c.decided c.next = rw e at (g.latest w) in
        let old : q ≡ first w + g.count w = ap number (sym e) ∙ g.numbers w hw in
        record {
          count = updated g.count w (suc (g.count w));
          lists = λ v. elim (eqb_tells v w) [
            | inl i ↦ rw (i.1, updated_same g.count w (suc (g.count w)), upto_more, ← old, indexes_place w b y c.decided refl rise mine.1) (ap (λ z. z ++ q ∷ []) (g.lists w))
            | inr n ↦ rw (updated_other g.count w (suc (g.count w)) v n.1, indexes_place_other v y c.decided (λ j. n.1 (sym j))) (g.lists v)
          ];
          numbers = λ v l. elim (eqb_tells v w) [
            | inl i ↦ rw (phase_after, i.1, updated_same g.count w (suc (g.count w)), updated_same (λ u. get_or c.workers u (Rest 0)) w m.phase) (omega (arith, old))
            | inr n ↦ rw (phase_after, updated_other g.count w (suc (g.count w)) v n.1, updated_other (λ u. get_or c.workers u (Rest 0)) w m.phase v n.1) (g.numbers v (rw length-set at l))
          ];
          latest = λ v. rw phase_after (by_updated (λ z. Latest z v (insert_by_stamp y c.decided) c.next) (λ u. get_or c.workers u (Rest 0)) w m.phase v
              (λ i. 0) (λ o. latest_place (phase_of c v) v (λ j. o (sym j)) (g.latest v)));
          below = all_below_place c.next y c.decided mine.0 g.below;
        }
      where
        latest_place : (p : Phase) (v : ℕ) → w ≢ v → Latest p v c.decided c.next → Latest p v (insert_by_stamp (record { stamp = t; worker = w; index = q; answer = answer; writes = writes }) c.decided) c.next
        latest_place (Rest q) v n h = 0
        latest_place (Asking q reads) v n h = 0
        latest_place (Wanting q reads r) v n h = 0
        latest_place (Loading q reads r seen loaded) v n h = 0
        latest_place (Locking q reads answer locked todo) v n h = 0
        latest_place (Validating q2 t2 done todo reply2 writes2) v n h = (h.0, below_of_place v t2 (record { stamp = t; worker = w; index = q; answer = answer; writes = writes }) c.decided n h.1)
        latest_place (Storing item j todo) v n h = 0
        latest_place (Refusing q todo) v n h = 0

    asked_number : (q : ℕ) (reads : List Read) (o : Outcome) → (number (asked q reads o) ≡ q) × Latest (asked q reads o) w c.decided c.next
    asked_number q reads (Wants r) = (refl, 0)
    asked_number q reads (Ends answer writes) = (refl, 0)

    abbrev IsPlain : Phase → ActResult → Type 0
    IsPlain p m = (decided_after c.decided m.effect ≡ c.decided) × (next_after c.next m.effect ≡ c.next) × (number m.phase ≡ number p) × (Latest p w c.decided c.next → Latest m.phase w c.decided c.next)

    plain_at : (p : Phase) → phase_of c w ≡ p → IsPlain p (act_result S w c.next p (get_or c.recs (target p) no_rec)) → Numbered (micro_at S c w p)
    plain_at p e h = plain (target p) p (act_result S w c.next p (get_or c.recs (target p) no_rec)) e h.0 h.1 h.2 h.3

    pub micro_numbered : (p : Phase) → phase_of c w ≡ p → Numbered (micro_at S c w p)
    micro_numbered (Rest q) e = plain_at (Rest q) e (refl, refl, refl, λ h. 0)
    micro_numbered (Asking q reads) e = plain_at (Asking q reads) e (refl, refl, (asked_number q reads (S.ask w q reads)).0, λ h. (asked_number q reads (S.ask w q reads)).1)
    micro_numbered (Wanting q reads r) e = plain_at (Wanting q reads r) e
        (by_test (λ z. IsPlain (Wanting q reads r) z) (is_some (get_or c.recs r no_rec).holder) _ _ (λ t. (refl, refl, refl, λ h. 0)) (λ t. (refl, refl, refl, λ h. 0)))
    micro_numbered (Loading q reads r seen loaded) e = plain_at (Loading q reads r seen loaded) e
        (by_test (λ z. IsPlain (Loading q reads r seen loaded) z) (nat_lt (length loaded) (length (get_or c.recs r no_rec).cells)) _ _
        (λ t. (refl, refl, refl, λ h. 0))
        (λ t. by_test (λ z. IsPlain (Loading q reads r seen loaded) z) (is_some (get_or c.recs r no_rec).holder) _ _ (λ f. (refl, refl, refl, λ h. 0))
        (λ f. by_test (λ z. IsPlain (Loading q reads r seen loaded) z) ((get_or c.recs r no_rec).stamp == seen) _ _ (λ s. (refl, refl, refl, λ h. 0)) (λ s. (refl, refl, refl, λ h. 0)))))
    micro_numbered (Locking q reads answer locked (y ∷ todo)) e = plain_at (Locking q reads answer locked (y ∷ todo)) e
        (by_test (λ z. IsPlain (Locking q reads answer locked (y ∷ todo)) z) (is_some (get_or c.recs y.rec no_rec).holder) _ _ (λ t. (refl, refl, refl, λ h. 0)) (λ t. (refl, refl, refl, λ h. 0)))
    micro_numbered (Locking q reads answer locked []) e = drew q reads answer locked (get_or c.recs 0 no_rec) e
    micro_numbered (Validating q t done (y ∷ todo) answer writes) e = plain_at (Validating q t done (y ∷ todo) answer writes) e
        (by_test (λ z. IsPlain (Validating q t done (y ∷ todo) answer writes) z) (other w (get_or c.recs y.rec no_rec).holder) _ _ (λ f. (refl, refl, refl, λ h. 0))
        (λ f. by_test (λ z. IsPlain (Validating q t done (y ∷ todo) answer writes) z) ((get_or c.recs y.rec no_rec).stamp == y.seen) _ _
        (λ s. (refl, refl, refl, λ h. h)) (λ s. (refl, refl, refl, λ h. 0))))
    micro_numbered (Validating q t done [] answer writes) e = won q t done answer writes (get_or c.recs 0 no_rec) e
    micro_numbered (Storing item j (y ∷ todo)) e = plain_at (Storing item j (y ∷ todo)) e
        (by_test (λ z. IsPlain (Storing item j (y ∷ todo)) z) (nat_lt j (length y.row)) _ _ (λ s. (refl, refl, refl, λ h. 0)) (λ s. (refl, refl, refl, λ h. 0)))
    micro_numbered (Storing item j []) e = plain_at (Storing item j []) e (refl, refl, refl, λ h. 0)
    micro_numbered (Refusing q (y ∷ todo)) e = plain_at (Refusing q (y ∷ todo)) e (refl, refl, refl, λ h. 0)
    micro_numbered (Refusing q []) e = plain_at (Refusing q []) e (refl, refl, refl, λ h. 0)

  latest_more : (p : Phase) (v n : ℕ) (xs : List CoreItem) → Latest p v xs n → Latest p v xs (suc n)
  latest_more (Rest q) v n xs h = 0
  latest_more (Asking q reads) v n xs h = 0
  latest_more (Wanting q reads r) v n xs h = 0
  latest_more (Loading q reads r seen loaded) v n xs h = 0
  latest_more (Locking q reads answer locked todo) v n xs h = 0
  latest_more (Validating q t done todo answer writes) v n xs h = (omega (arith, h.0), h.1)
  latest_more (Storing item j todo) v n xs h = 0
  latest_more (Refusing q todo) v n xs h = 0

  pub idle_numbered : (c : Core) (w : ℕ) → Numbered c → Numbered (idle c w)
  idle_numbered c w g = by_test (λ z. Numbered z) (resting (phase_of c w)) _ _
      (λ t. record {
        count = g.count;
        lists = g.lists;
        numbers = g.numbers;
        latest = λ v. latest_more (phase_of c v) v c.next c.decided (g.latest v);
        below = all_below_up c.next (suc c.next) c.decided (omega arith) g.below;
      })
      (λ t. g)

  -- at the opening each worker rests before its first request
  pub opening_numbered : (S : Setting) (recs : List Rec) (workers : List Phase) → ((w : ℕ) → w < length workers → get_or workers w (Rest 0) ≡ Rest (first w))
      → ((w : ℕ) → Latest (get_or workers w (Rest 0)) w [] S.base) → Numbered (opening_core S recs workers)
  opening_numbered S recs workers h l = record {
    count = λ w. 0;
    lists = λ w. refl;
    numbers = λ w b. ap number (h w b) ∙ omega arith;
    latest = l;
    below = 0;
  }

  pub in_lists : (c : Core) → Numbered c → InLists first c.decided
  in_lists c g = λ w. (g.count w, g.lists w)
