-- What any turns keep: stamps in range, decided items among what was made, and the order in which items end.
use Rattle.std.proofs.Common.{◌≡◌, ◌≢◌, ℕ, suc, ◌+◌, ◌<◌, ◌≤◌, List, [], ◌∷◌, ◌++◌, length, get_or, true, ◌==◌, ◌&&◌, nat_lt, is_some, if◌then◌else◌, reverse, None, IfSome, option_to_list, Contains, refl, sym, ap, ◌∙◌, subst, arith, inl, inr, true≢false, length-set}
use Rattle.std.specs.List.{AllByRecursion}
use Rattle.std.proofs.lemmas.Bool.Decides.{eqb_tells}
use Rattle.std.proofs.lemmas.List.{append-nil, reverse-append, length-map}
use Rattle.std.proofs.lemmas.List.Elements.{All-from_recursion}
use Rattle.rl_base.specs.Lists.{updated}
use Rattle.rl_base.proofs.UpdateLemmas.{updated_same, updated_other, by_updated}
use Rattle.rl_base.proofs.Members.{In, in_contains}
use Rattle.rl_worker.proofs.States.{Answer, Read, Install, Rec, Outcome, Wants, Ends, Phase, Rest, Asking, Wanting, Loading, Locking, Validating, Storing, Refusing, Setting, asked, other}
use Rattle.rl_worker.specs.Items.{CoreItem, insert_by_stamp}
use Rattle.rl_worker.specs.Acts.{ActResult, target, act_result, Core, no_rec, phase_of, opening_core, idle, resting, micro, passing, settle, begin, step, is_done, may, Turn, Step, Idle, turn, after_turns}
use Rattle.rl_worker.specs.Attempts.{next_after}
use Rattle.rl_worker.specs.Opening.{OpenLeader, core_after, setting_of, opening_recs, at_rest}
use Rattle.rl_worker.specs.OneTurn.{MadeBetween, IsInRange, items_by, installing, ended_by}
use Rattle.rl_worker.specs.Workers.{stamp_made}
use Rattle.rl_worker.proofs.Parts.{micro_parts, decided_after, ended_after, made_after, parts, micro_at, step_on}
use Rattle.rl_worker.proofs.Basics.{by_test, rest_at, test_lt, test_ge}
use Rattle.rl_worker.proofs.Installs.{both}
use Rattle.rl_worker.proofs.Lift.{set_reads}
use Rattle.rl_worker.proofs.Numbers.{BelowOf, AllBelow, below_of, all_below_up, all_below_place, below_of_place}
use Rattle.rl_worker.proofs.OneStep.{one_step}
use Rattle.rl_worker.proofs.Settings.{all_at_rest}

-- ---- lists of items ----
made_up : (k b m n : ℕ) (ms : List (ℕ × ℕ)) → m ≤ n → AllByRecursion (MadeBetween k b m) ms → AllByRecursion (MadeBetween k b n) ms
made_up k b m n [] l h = tt
made_up k b m n (x ∷ ms) l h = (record { first = h.0.first; there = h.0.there; above = h.0.above; below = omega (arith, h.0.below) }, made_up k b m n ms l h.1)

-- each item was made
abbrev AllIn : List (ℕ × ℕ) → List CoreItem → Type 0
AllIn ms xs = AllByRecursion (λ x. In (stamp_made x) ms) xs

in_more : (m : ℕ × ℕ) (ms : List (ℕ × ℕ)) (xs : List CoreItem) → AllIn ms xs → AllIn (m ∷ ms) xs
in_more m ms [] h = tt
in_more m ms (x ∷ xs) h = (inr h.0, in_more m ms xs h.1)

in_place : (ms : List (ℕ × ℕ)) (x : CoreItem) (xs : List CoreItem) → In (stamp_made x) ms → AllIn ms xs → AllIn ms (insert_by_stamp x xs)
in_place ms x [] i h = (i, tt)
in_place ms x (y ∷ ys) i h = by_test (AllIn ms) (nat_lt x.stamp y.stamp) (x ∷ y ∷ ys) (y ∷ insert_by_stamp x ys) (λ t. (i, h)) (λ t. (h.0, in_place ms x ys i h.1))

-- stamps from b on that do not fall
abbrev Rises : ℕ → List CoreItem → Type 0
Rises b [] = Unit {0}
Rises b (x ∷ xs) = (b ≤ x.stamp) × Rises x.stamp xs

rises_down : (a b : ℕ) (xs : List CoreItem) → a ≤ b → Rises b xs → Rises a xs
rises_down a b [] l h = tt
rises_down a b (x ∷ xs) l h = (omega (arith, h.0), h.1)

rises_place : (b : ℕ) (x : CoreItem) (xs : List CoreItem) → b ≤ x.stamp → Rises b xs → Rises b (insert_by_stamp x xs)
rises_place b x [] l h = (l, tt)
rises_place b x (y ∷ ys) l h = by_test (Rises b) (nat_lt x.stamp y.stamp) (x ∷ y ∷ ys) (y ∷ insert_by_stamp x ys)
    (λ t. (l, (omega (arith, test_lt x.stamp y.stamp t), h.1)))
    (λ t. (h.0, rises_place y.stamp x ys (test_ge x.stamp y.stamp t) h.1))

by_own : (w : ℕ) (x : CoreItem) (xs : List CoreItem) → x.worker ≡ w → items_by w (x ∷ xs) ≡ x ∷ items_by w xs
by_own w x xs i = elim (eqb_tells x.worker w) [ inl e ↦ rw e.0 refl | inr e ↦ absurd (e.1 i) ]

by_other : (w : ℕ) (x : CoreItem) (xs : List CoreItem) → x.worker ≢ w → items_by w (x ∷ xs) ≡ items_by w xs
by_other w x xs n = elim (eqb_tells x.worker w) [ inl e ↦ absurd (n e.1) | inr e ↦ rw e.0 refl ]

place_other : (w : ℕ) (x : CoreItem) (xs : List CoreItem) → x.worker ≢ w → items_by w (insert_by_stamp x xs) ≡ items_by w xs
place_other w x [] n = by_other w x [] n
place_other w x (y ∷ ys) n = by_test (λ z. items_by w z ≡ items_by w (y ∷ ys)) (nat_lt x.stamp y.stamp) (x ∷ y ∷ ys) (y ∷ insert_by_stamp x ys)
    (λ e. by_other w x (y ∷ ys) n)
    (λ e. ap (λ z. if y.worker == w then y ∷ z else z) (place_other w x ys n))

none_after : (w t : ℕ) (xs : List CoreItem) → Rises t xs → BelowOf w t xs → items_by w xs ≡ []
none_after w t [] r h = refl
none_after w t (x ∷ xs) r h = elim (eqb_tells x.worker w) [
  | inl e ↦ absurd (omega (arith, h.0 e.1, r.0))
  | inr e ↦ rw e.0 (none_after w t xs (rises_down t x.stamp xs r.0 r.1) h.1)
]

-- an item above all others of its worker is the last of them
place_own : (w b : ℕ) (x : CoreItem) (xs : List CoreItem) → x.worker ≡ w → Rises b xs → BelowOf w x.stamp xs → items_by w (insert_by_stamp x xs) ≡ items_by w xs ++ x ∷ []
place_own w b x [] i r h = by_own w x [] i
place_own w b x (y ∷ ys) i r h = by_test (λ z. items_by w z ≡ items_by w (y ∷ ys) ++ x ∷ []) (nat_lt x.stamp y.stamp) (x ∷ y ∷ ys) (y ∷ insert_by_stamp x ys)
    (λ e. let less = test_lt x.stamp y.stamp e in
    let none : items_by w (y ∷ ys) ≡ [] = none_after w x.stamp (y ∷ ys) (omega arith, r.1) h in
    by_own w x (y ∷ ys) i ∙ ap (λ z. x ∷ z) none ∙ ap (λ z. z ++ x ∷ []) (sym none))
    (λ e. let later = place_own w y.stamp x ys i r.1 h.1 in
    elim (eqb_tells y.worker w) [ inl k ↦ rw k.0 (ap (λ z. y ∷ z) later) | inr k ↦ rw k.0 later ])

-- ---- phases ----
-- a stamp that is drawn and not yet decided is from b on and below n, and above all that its worker decided
abbrev Drawn : ℕ → ℕ → Phase → List CoreItem → ℕ → Type 0
Drawn b w (Validating q t done todo answer writes) xs n = (b ≤ t) × (t < n) × BelowOf w t xs
Drawn b w p xs n = Unit {0}

drawn_up : (b w : ℕ) (p : Phase) (xs : List CoreItem) (n : ℕ) → Drawn b w p xs n → Drawn b w p xs (suc n)
drawn_up b w (Rest q) xs n h = tt
drawn_up b w (Asking q reads) xs n h = tt
drawn_up b w (Wanting q reads r) xs n h = tt
drawn_up b w (Loading q reads r seen loaded) xs n h = tt
drawn_up b w (Locking q reads answer locked todo) xs n h = tt
drawn_up b w (Validating q t done todo answer writes) xs n h = (h.0, omega (arith, h.1), h.2)
drawn_up b w (Storing item j todo) xs n h = tt
drawn_up b w (Refusing q todo) xs n h = tt

drawn_place : (b w : ℕ) (p : Phase) (x : CoreItem) (xs : List CoreItem) (n : ℕ) → x.worker ≢ w → Drawn b w p xs n → Drawn b w p (insert_by_stamp x xs) n
drawn_place b w (Rest q) x xs n o h = tt
drawn_place b w (Asking q reads) x xs n o h = tt
drawn_place b w (Wanting q reads r) x xs n o h = tt
drawn_place b w (Loading q reads r seen loaded) x xs n o h = tt
drawn_place b w (Locking q reads answer locked todo) x xs n o h = tt
drawn_place b w (Validating q t done todo answer writes) x xs n o h = (h.0, h.1, below_of_place w t x xs o h.2)
drawn_place b w (Storing item j todo) x xs n o h = tt
drawn_place b w (Refusing q todo) x xs n o h = tt

at_rest_none : (b w : ℕ) (p : Phase) (xs : List CoreItem) (n : ℕ) → resting p ≡ true → Drawn b w p xs n × (installing p ≡ None)
at_rest_none b w (Rest q) xs n h = (tt, refl)
at_rest_none b w (Asking q reads) xs n h = absurd (true≢false (sym h))
at_rest_none b w (Wanting q reads r) xs n h = absurd (true≢false (sym h))
at_rest_none b w (Loading q reads r seen loaded) xs n h = absurd (true≢false (sym h))
at_rest_none b w (Locking q reads answer locked todo) xs n h = absurd (true≢false (sym h))
at_rest_none b w (Validating q t done todo answer writes) xs n h = absurd (true≢false (sym h))
at_rest_none b w (Storing item j todo) xs n h = absurd (true≢false (sym h))
at_rest_none b w (Refusing q todo) xs n h = absurd (true≢false (sym h))

module _ (k b : ℕ) where
  -- k workers, whose stamps are from b on
  record Ranged (c : Core) : Type 0 where
    pub low : b ≤ c.next
    pub workers : length c.workers ≡ suc k
    pub made : AllByRecursion (MadeBetween k b c.next) c.made
    pub decided : AllIn c.made c.decided
    pub rises : Rises 0 c.decided
    pub below : AllBelow c.next c.decided
    pub drawn : (w : ℕ) → Drawn b w (phase_of c w) c.decided c.next
    pub ends : (w : ℕ) → items_by w c.decided ≡ reverse (items_by w c.ended) ++ option_to_list (installing (phase_of c w))
    pub own : (w : ℕ) → IfSome (installing (phase_of c w)) (λ x. x.worker ≡ w)

  module _ (S : Setting) (c : Core) (g : Ranged c) (w : ℕ) (first : 1 ≤ w) (hw : w < suc k) where
    is_there : w < length c.workers
    is_there = omega (arith, g.workers)

    phase_after : (r : ℕ) (m : ActResult) (v : ℕ) → phase_of (parts c w r m) v ≡ updated (λ u. get_or c.workers u (Rest 0)) w m.phase v
    phase_after r m v = ap (λ f. f v) (set_reads c.workers w m.phase (Rest 0) is_there)

    -- an act that makes, draws and ends nothing
    plain : (r : ℕ) (p : Phase) (m : ActResult) → phase_of c w ≡ p → decided_after c.decided m.effect ≡ c.decided → ended_after c.ended m.effect ≡ c.ended
        → made_after c.made m.effect ≡ c.made → next_after c.next m.effect ≡ c.next
        → (Drawn b w p c.decided c.next → Drawn b w m.phase c.decided c.next) → installing m.phase ≡ installing p → Ranged (parts c w r m)
    plain r p m e d o a n late same = record {
      low = rw n g.low;
      workers = rw length-set g.workers;
      made = rw (a, n) g.made;
      decided = rw (a, d) g.decided;
      rises = rw d g.rises;
      below = rw (d, n) g.below;
      drawn = λ v. rw (phase_after, d, n) (by_updated (λ z. Drawn b v z c.decided c.next) (λ u. get_or c.workers u (Rest 0)) w m.phase v
          (λ i. rw i (late (rw e at (g.drawn w)))) (λ i. g.drawn v));
      ends = λ v. rw (phase_after, d, o) (by_updated (λ z. items_by v c.decided ≡ reverse (items_by v c.ended) ++ option_to_list (installing z)) (λ u. get_or c.workers u (Rest 0)) w m.phase v
          (λ i. rw (i, same) (rw e at (g.ends w))) (λ i. g.ends v));
      own = λ v. rw phase_after (by_updated (λ z. IfSome (installing z) (λ x. x.worker ≡ v)) (λ u. get_or c.workers u (Rest 0)) w m.phase v
          (λ i. rw (i, same) (rw e at (g.own w))) (λ i. g.own v));
    }

    drew : (q : ℕ) (reads : List Read) (answer : Answer) (locked : List Install) (x : Rec) → phase_of c w ≡ Locking q reads answer locked []
        → Ranged (parts c w 0 (act_result S w c.next (Locking q reads answer locked []) x))
    drew q reads answer locked x e =
        let m = act_result S w c.next (Locking q reads answer locked []) x in
        record {
          low = omega (arith, g.low);
          workers = rw length-set g.workers;
          made = made_up k b c.next (suc c.next) c.made (omega arith) g.made;
          decided = g.decided;
          rises = g.rises;
          below = all_below_up c.next (suc c.next) c.decided (omega arith) g.below;
          drawn = λ v. rw phase_after (by_updated (λ z. Drawn b v z c.decided (suc c.next)) (λ u. get_or c.workers u (Rest 0)) w m.phase v
              (λ i. (g.low, omega arith, below_of v c.next c.decided g.below)) (λ i. drawn_up b v (phase_of c v) c.decided c.next (g.drawn v)));
          ends = λ v. rw phase_after (by_updated (λ z. items_by v c.decided ≡ reverse (items_by v c.ended) ++ option_to_list (installing z)) (λ u. get_or c.workers u (Rest 0)) w m.phase v
              (λ i. rw i (rw e at (g.ends w))) (λ i. g.ends v));
          own = λ v. rw phase_after (by_updated (λ z. IfSome (installing z) (λ x. x.worker ≡ v)) (λ u. get_or c.workers u (Rest 0)) w m.phase v (λ i. tt) (λ i. g.own v));
        }

    won : (q t : ℕ) (done : List Read) (answer : Answer) (writes : List Install) (x : Rec) → phase_of c w ≡ Validating q t done [] answer writes
        → Ranged (parts c w 0 (act_result S w c.next (Validating q t done [] answer writes) x))
    won q t done answer writes x e =
        let m = act_result S w c.next (Validating q t done [] answer writes) x in
        let y : CoreItem = record { stamp = t; worker = w; index = q; answer = answer; writes = writes } in
        let mine : Drawn b w (Validating q t done [] answer writes) c.decided c.next = rw e at (g.drawn w) in
        let before : items_by w c.decided ≡ reverse (items_by w c.ended) ++ [] = rw e at (g.ends w) in
        record {
          low = g.low;
          workers = rw length-set g.workers;
          made = (record { first = first; there = omega arith; above = mine.0; below = mine.1 }, g.made);
          decided = in_place ((w, t) ∷ c.made) y c.decided (inl refl) (in_more (w, t) c.made c.decided g.decided);
          rises = rises_place 0 y c.decided (omega arith) g.rises;
          below = all_below_place c.next y c.decided mine.1 g.below;
          drawn = λ v. rw phase_after (by_updated (λ z. Drawn b v z (insert_by_stamp y c.decided) c.next) (λ u. get_or c.workers u (Rest 0)) w m.phase v
              (λ i. tt) (λ n. drawn_place b v (phase_of c v) y c.decided c.next (λ j. n (sym j)) (g.drawn v)));
          ends = λ v. elim (eqb_tells v w) [
            | inl i ↦ rw (phase_after, i.1, updated_same (λ u. get_or c.workers u (Rest 0)) w m.phase)
                (place_own w 0 y c.decided refl g.rises mine.2 ∙ ap (λ z. z ++ y ∷ []) (before ∙ append-nil (reverse (items_by w c.ended))))
            | inr n ↦ rw (phase_after, updated_other (λ u. get_or c.workers u (Rest 0)) w m.phase v n.1)
                (place_other v y c.decided (λ j. n.1 (sym j)) ∙ g.ends v)
          ];
          own = λ v. rw phase_after (by_updated (λ z. IfSome (installing z) (λ x. x.worker ≡ v)) (λ u. get_or c.workers u (Rest 0)) w m.phase v (λ i. sym i) (λ i. g.own v));
        }

    ended : (item : CoreItem) (j : ℕ) (x : Rec) → phase_of c w ≡ Storing item j []
        → Ranged (parts c w 0 (act_result S w c.next (Storing item j []) x))
    ended item j x e =
        let m = act_result S w c.next (Storing item j []) x in
        let own : item.worker ≡ w = rw e at (g.own w) in
        let before : items_by w c.decided ≡ reverse (items_by w c.ended) ++ item ∷ [] = rw e at (g.ends w) in
        let last : reverse (items_by w (item ∷ c.ended)) ≡ reverse (items_by w c.ended) ++ item ∷ [] =
        ap reverse (by_own w item c.ended own) ∙ reverse-append (item ∷ []) (items_by w c.ended) in
        record {
          low = g.low;
          workers = rw length-set g.workers;
          made = g.made;
          decided = g.decided;
          rises = g.rises;
          below = g.below;
          drawn = λ v. rw phase_after (by_updated (λ z. Drawn b v z c.decided c.next) (λ u. get_or c.workers u (Rest 0)) w m.phase v (λ i. tt) (λ i. g.drawn v));
          ends = λ v. elim (eqb_tells v w) [
            | inl i ↦ subst (λ u. items_by u c.decided ≡ reverse (items_by u (item ∷ c.ended)) ++ option_to_list (installing (phase_of (parts c w 0 m) u))) (sym i.1)
                (before ∙ sym last ∙ sym (append-nil (reverse (items_by w (item ∷ c.ended)))) ∙ ap (λ z. reverse (items_by w (item ∷ c.ended)) ++ option_to_list (installing z))
                (sym (phase_after 0 m w ∙ updated_same (λ u. get_or c.workers u (Rest 0)) w m.phase)))
            | inr n ↦ rw (phase_after, updated_other (λ u. get_or c.workers u (Rest 0)) w m.phase v n.1, by_other v item c.ended (λ h. n.1 (sym h ∙ own))) (g.ends v)
          ];
          own = λ v. rw phase_after (by_updated (λ z. IfSome (installing z) (λ x. x.worker ≡ v)) (λ u. get_or c.workers u (Rest 0)) w m.phase v (λ i. tt) (λ i. g.own v));
        }

    abbrev IsPlain : Phase → ActResult → Type 0
    IsPlain p m = (decided_after c.decided m.effect ≡ c.decided) × (ended_after c.ended m.effect ≡ c.ended) × (made_after c.made m.effect ≡ c.made) × (next_after c.next m.effect ≡ c.next)
        × (Drawn b w p c.decided c.next → Drawn b w m.phase c.decided c.next) × (installing m.phase ≡ installing p)

    plain_at : (p : Phase) → phase_of c w ≡ p → IsPlain p (act_result S w c.next p (get_or c.recs (target p) no_rec)) → Ranged (micro_at S c w p)
    plain_at p e h = plain (target p) p (act_result S w c.next p (get_or c.recs (target p) no_rec)) e h.0 h.1 h.2 h.3 h.4 h.5

    asked_none : (q : ℕ) (reads : List Read) (o : Outcome) → Drawn b w (asked q reads o) c.decided c.next × (installing (asked q reads o) ≡ None)
    asked_none q reads (Wants r) = (tt, refl)
    asked_none q reads (Ends answer writes) = (tt, refl)

    micro_ranged : (p : Phase) → phase_of c w ≡ p → Ranged (micro_at S c w p)
    micro_ranged (Rest q) e = plain_at (Rest q) e (refl, refl, refl, refl, λ h. tt, refl)
    micro_ranged (Asking q reads) e = let o = asked_none q reads (S.ask w q reads) in plain_at (Asking q reads) e (refl, refl, refl, refl, λ h. o.0, o.1)
    micro_ranged (Wanting q reads r) e = plain_at (Wanting q reads r) e
        (by_test (IsPlain (Wanting q reads r)) (is_some (get_or c.recs r no_rec).holder) _ _ (λ t. (refl, refl, refl, refl, λ h. tt, refl)) (λ t. (refl, refl, refl, refl, λ h. tt, refl)))
    micro_ranged (Loading q reads r seen loaded) e = plain_at (Loading q reads r seen loaded) e
        (by_test (IsPlain (Loading q reads r seen loaded)) (nat_lt (length loaded) (length (get_or c.recs r no_rec).cells)) _ _
        (λ t. (refl, refl, refl, refl, λ h. tt, refl))
        (λ t. by_test (IsPlain (Loading q reads r seen loaded)) (is_some (get_or c.recs r no_rec).holder) _ _ (λ f. (refl, refl, refl, refl, λ h. tt, refl))
        (λ f. by_test (IsPlain (Loading q reads r seen loaded)) ((get_or c.recs r no_rec).stamp == seen) _ _ (λ s. (refl, refl, refl, refl, λ h. tt, refl)) (λ s. (refl, refl, refl, refl, λ h. tt, refl)))))
    micro_ranged (Locking q reads answer locked (y ∷ todo)) e = plain_at (Locking q reads answer locked (y ∷ todo)) e
        (by_test (IsPlain (Locking q reads answer locked (y ∷ todo))) (is_some (get_or c.recs y.rec no_rec).holder) _ _ (λ t. (refl, refl, refl, refl, λ h. tt, refl)) (λ t. (refl, refl, refl, refl, λ h. tt, refl)))
    micro_ranged (Locking q reads answer locked []) e = drew q reads answer locked (get_or c.recs 0 no_rec) e
    micro_ranged (Validating q t done (y ∷ todo) answer writes) e = plain_at (Validating q t done (y ∷ todo) answer writes) e
        (by_test (IsPlain (Validating q t done (y ∷ todo) answer writes)) (other w (get_or c.recs y.rec no_rec).holder) _ _ (λ f. (refl, refl, refl, refl, λ h. tt, refl))
        (λ f. by_test (IsPlain (Validating q t done (y ∷ todo) answer writes)) ((get_or c.recs y.rec no_rec).stamp == y.seen) _ _
        (λ s. (refl, refl, refl, refl, λ h. h, refl)) (λ s. (refl, refl, refl, refl, λ h. tt, refl))))
    micro_ranged (Validating q t done [] answer writes) e = won q t done answer writes (get_or c.recs 0 no_rec) e
    micro_ranged (Storing item j (y ∷ todo)) e = plain_at (Storing item j (y ∷ todo)) e
        (by_test (IsPlain (Storing item j (y ∷ todo))) (nat_lt j (length y.row)) _ _ (λ s. (refl, refl, refl, refl, λ h. tt, refl)) (λ s. (refl, refl, refl, refl, λ h. tt, refl)))
    micro_ranged (Storing item j []) e = ended item j (get_or c.recs 0 no_rec) e
    micro_ranged (Refusing q (y ∷ todo)) e = plain_at (Refusing q (y ∷ todo)) e (refl, refl, refl, refl, λ h. tt, refl)
    micro_ranged (Refusing q []) e = plain_at (Refusing q []) e (refl, refl, refl, refl, λ h. tt, refl)

  module _ (S : Setting) where
    micro_ok : (c : Core) (w : ℕ) → 1 ≤ w → w < suc k → Ranged c → Ranged (micro S c w)
    micro_ok c w f h g = subst Ranged (sym (micro_parts S c w)) (micro_ranged S c g w f h (phase_of c w) refl)

    settle_ok : (c : Core) (w : ℕ) → 1 ≤ w → w < suc k → Ranged c → Ranged (settle S c w)
    settle_ok c w f h g = by_test Ranged (passing (phase_of c w)) (micro S c w) c (λ t. micro_ok c w f h g) (λ t. g)

    begin_ok : (c : Core) (w : ℕ) → 1 ≤ w → w < suc k → Ranged c → Ranged (begin S c w)
    begin_ok c w f h g = by_test Ranged (resting (phase_of c w)) (micro S (micro S c w) w) c (λ t. micro_ok (micro S c w) w f h (micro_ok c w f h g)) (λ t. g)

    step_ok : (c : Core) (w : ℕ) → 1 ≤ w → w < suc k → Ranged c → Ranged (step S c w)
    step_ok c w f h g = by_test Ranged (is_done S w (phase_of c w)) c (step_on S c w) (λ t. g) (λ t.
        let a = begin_ok c w f h g in
        let d = micro_ok (begin S c w) w f h a in
        let e = settle_ok (micro S (begin S c w) w) w f h d in
        settle_ok (settle S (micro S (begin S c w) w) w) w f h e)

    idle_ok : (c : Core) (w : ℕ) → 1 ≤ w → w < suc k → Ranged c → Ranged (idle c w)
    idle_ok c w f h g = by_test Ranged (resting (phase_of c w)) _ _
        (λ t. record {
          low = omega (arith, g.low);
          workers = g.workers;
          made = (record { first = f; there = omega arith; above = g.low; below = omega arith }, made_up k b c.next (suc c.next) c.made (omega arith) g.made);
          decided = in_more (w, c.next) c.made c.decided g.decided;
          rises = g.rises;
          below = all_below_up c.next (suc c.next) c.decided (omega arith) g.below;
          drawn = λ v. drawn_up b v (phase_of c v) c.decided c.next (g.drawn v);
          ends = g.ends;
          own = g.own;
        })
        (λ t. g)

    -- in range, with the next stamp up to the last one and past the first by n at most
    record Turned (n : ℕ) (c : Core) : Type 0 where
      pub ranged : Ranged c
      pub high : c.next ≤ S.last
      pub few : c.next ≤ b + n

    idle_next : (c : Core) (w : ℕ) → (idle c w).next ≤ suc c.next
    idle_next c w = by_test (λ (z : Core). z.next ≤ suc c.next) (resting (phase_of c w)) _ c (λ t. omega arith) (λ t. omega arith)

    -- a worker that may move is one of those counted, and there is a stamp left
    record Moves (c : Core) (w : ℕ) : Type 0 where
      pub first : 1 ≤ w
      pub there : w < length c.workers
      pub left : c.next < S.last

    moves : (c : Core) (w : ℕ) → may S c w ≡ true → Moves c w
    moves c w t =
        let a = both (nat_lt 0 w) (nat_lt w (length c.workers) && nat_lt c.next S.last) t in
        let d = both (nat_lt w (length c.workers)) (nat_lt c.next S.last) a.1 in
        record { first = test_lt 0 w a.0; there = test_lt w (length c.workers) d.0; left = test_lt c.next S.last d.1 }

    turn_ok : (n : ℕ) (c : Core) (t : Turn) → Turned n c → Turned (suc n) (turn S c t)
    turn_ok n c (Step w) g = by_test (Turned (suc n)) (may S c w) (step S c w) c
        (λ t. let m = moves c w t in
        let one = one_step S w c m.there in
        record { ranged = step_ok c w m.first (omega (arith, m.there, g.ranged.workers)) g.ranged; high = omega (arith, one.next_high, m.left); few = omega (arith, one.next_high, g.few) })
        (λ t. record { ranged = g.ranged; high = g.high; few = omega (arith, g.few) })
    turn_ok n c (Idle w) g = by_test (Turned (suc n)) (may S c w) (idle c w) c
        (λ t. let m = moves c w t in
        record { ranged = idle_ok c w m.first (omega (arith, m.there, g.ranged.workers)) g.ranged; high = omega (arith, idle_next c w, m.left); few = omega (arith, idle_next c w, g.few) })
        (λ t. record { ranged = g.ranged; high = g.high; few = omega (arith, g.few) })

    run_ok : (ts : List Turn) (n : ℕ) (c : Core) → Turned n c → Turned (n + length ts) (after_turns S c ts)
    run_ok [] n c g = record { ranged = g.ranged; high = g.high; few = omega (arith, g.few) }
    run_ok (t ∷ ts) n c g =
        let h = run_ok ts (suc n) (turn S c t) (turn_ok n c t g) in
        record { ranged = h.ranged; high = h.high; few = omega (arith, h.few) }

-- ---- the core of an open leader ----
module _ (l : OpenLeader) where
  abbrev S : Setting
  S = setting_of l.tables l.lists l.epoch

  opened : Turned (length l.firsts) S.base S 0 (opening_core S (opening_recs l.tables l.rows l.stamps) (at_rest l.firsts))
  opened = record {
    ranged = record {
      low = omega arith;
      workers = ap suc (length-map l.firsts Rest);
      made = tt;
      decided = tt;
      rises = tt;
      below = 0;
      drawn = λ w. (at_rest_none S.base w (get_or (at_rest l.firsts) w (Rest 0)) [] S.base (rest_at (at_rest l.firsts) w (all_at_rest l.firsts))).0;
      ends = λ w. rw ((at_rest_none S.base w (get_or (at_rest l.firsts) w (Rest 0)) [] S.base (rest_at (at_rest l.firsts) w (all_at_rest l.firsts))).1) refl;
      own = λ w. rw ((at_rest_none S.base w (get_or (at_rest l.firsts) w (Rest 0)) [] S.base (rest_at (at_rest l.firsts) w (all_at_rest l.firsts))).1) tt;
    };
    high = omega arith;
    few = omega arith;
  }

  after : (turns : List Turn) → Turned (length l.firsts) S.base S (0 + length turns) (core_after l turns)
  after turns = run_ok (length l.firsts) S.base S turns 0 (opening_core S (opening_recs l.tables l.rows l.stamps) (at_rest l.firsts)) opened

  all_made : (ms : List (ℕ × ℕ)) (xs : List CoreItem) → AllIn ms xs → AllByRecursion (λ x. Contains ms (stamp_made x)) xs
  all_made ms [] h = tt
  all_made ms (x ∷ xs) h = (in_contains ms (stamp_made x) h.0, all_made ms xs h.1)

  pub in_range : (turns : List Turn) → IsInRange l (length turns) (core_after l turns)
  in_range turns =
      let c = core_after l turns in
      let g = after turns in
      record {
        low = g.ranged.low;
        high = g.high;
        few = omega (arith, g.few);
        made = All-from_recursion (MadeBetween (length l.firsts) S.base c.next) c.made g.ranged.made;
        decided = All-from_recursion (λ x. Contains c.made (stamp_made x)) c.decided (all_made c.made c.decided g.ranged.decided);
      }

  pub end_in_order : (turns : List Turn) (w : ℕ) → items_by w (core_after l turns).decided ≡ ended_by w (core_after l turns) ++ option_to_list (installing (phase_of (core_after l turns) w))
  end_in_order turns w = (after turns).ranged.ends w
