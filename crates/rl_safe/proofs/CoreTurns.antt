-- What one turn of a worker does to the core of an open leader, by worker.
use Rattle.std.proofs.Common.{◌≡◌, ◌≢◌, ◌⊎◌, ℕ, suc, ◌+◌, ◌-◌, ◌*◌, ◌^◌, ◌<◌, ◌≤◌, List, [], ◌∷◌, ◌++◌, length, map, get_or, Bool, true, false, ◌&&◌, ◌==◌, nat_lt, if◌then◌else◌, reverse, Option, Some, None, IfSome, option_to_list, option_map, slice_get, Contains, refl, sym, ap, ◌∙◌, subst, arith, inl, inr, length-set, get_or-set_other}
use Rattle.std.proofs.lemmas.Bool.Decides.{eqb_tells}
use Rattle.std.proofs.lemmas.List.{append-nil, append_cancel_right, reverse-append, length-reverse, length-map}
use Rattle.std.specs.List.Sorted.{IsStrictlyIncreasing}
use Rattle.rl_base.proofs.Members.{In, contains_in, all_in}
use Rattle.rl_base.proofs.Tests.{both, true_lt, lt_true, lt_false}
use Rattle.rl_base.specs.Stamps.{packed}
use Rattle.rl_txn.specs.declared.item.Item.{Item}
use Rattle.rl_worker.specs.Items.{CoreItem, insert_by_stamp}
use Rattle.rl_worker.specs.Phases.{Rest, Setting}
use Rattle.rl_worker.specs.Acts.{CoreRefusal, Core, Turn, Step, Idle, phase_of, resting, is_done, may, micro, settle, begin, step, idle, turn, after_turns}
use Rattle.rl_worker.specs.Opening.{OpenLeader, CoreFits, core_after, setting_of, item_seen, items_seen, opening_recs, at_rest}
use Rattle.rl_worker.specs.Acts as acts
use Rattle.rl_worker.specs.Laws.{AllUnder, IsFalling, stamps_by, StepsAreOne}
use Rattle.rl_worker.specs.OneTurn.{MadeBetween, IsInRange, items_by, ended_by, installing, newly_ended, newly_refused}
use Rattle.rl_worker.specs.Workers.{with_item, stamp_made}
use Rattle.rl_safe.proofs.Below.{Below}

pub by_if : {A : Type 0} (P : A → Type 0) (b : Bool) (x y : A) → (b ≡ true → P x) → (b ≡ false → P y) → P (if b then x else y)
by_if P true x y t f = t refl
by_if P false x y t f = f refl

-- ---- turns one after another ----

after_more : (S : Setting) (c : Core) (ts : List Turn) (t : Turn) → after_turns S c (ts ++ t ∷ []) ≡ turn S (after_turns S c ts) t
after_more S c [] t = refl
after_more S c (x ∷ ts) t = after_more S (turn S c x) ts t

abbrev pub own_setting : OpenLeader → Setting
own_setting l = setting_of l.tables l.lists l.epoch

abbrev first_core : OpenLeader → Core
first_core l = acts.opening_core (own_setting l) (opening_recs l.tables l.rows l.stamps) (at_rest l.firsts)

pub core_more : (l : OpenLeader) (ts : List Turn) (t : Turn) → core_after l (ts ++ t ∷ []) ≡ turn (own_setting l) (core_after l ts) t
core_more l ts t = after_more (own_setting l) (first_core l) ts t

-- a turn of worker w: it decides an item or none, ends one or none, and is refused or not; no other worker moves
pub record Turned (w : ℕ) (c d : Core) : Type 0 where
  pub item : Option CoreItem
  pub over : Option CoreItem
  pub refusal : Option CoreRefusal
  pub decided : d.decided ≡ with_item item c.decided
  pub made : d.made ≡ option_to_list (option_map stamp_made item) ++ c.made
  pub of_item : IfSome item (λ x. x.worker ≡ w)
  pub ended : d.ended ≡ option_to_list over ++ c.ended
  pub refusals : d.refusals ≡ option_to_list refusal ++ c.refusals
  pub others : (u : ℕ) → u ≢ w → phase_of d u ≡ phase_of c u
  pub sized : length d.workers ≡ length c.workers
  pub next : c.next ≤ d.next

still : (w : ℕ) (c : Core) → Turned w c c
still w c = record {
  item = None;
  over = None;
  refusal = None;
  decided = refl;
  made = refl;
  of_item = tt;
  ended = refl;
  refusals = refl;
  others = λ u n. refl;
  sized = refl;
  next = omega arith;
}

stepped : StepsAreOne → (S : Setting) (c : Core) (w : ℕ) → w < length c.workers → Turned w c (step S c w)
stepped one S c w there =
    let o = one S c w there in
    record {
      item = o.item;
      over = o.over;
      refusal = o.refusal;
      decided = o.decided;
      made = o.made;
      of_item = o.of_item;
      ended = o.ended;
      refusals = o.refusals;
      others = λ u n. ap (λ ws. get_or ws u (Rest 0)) o.workers ∙ get_or-set_other c.workers w u (phase_of (step S c w) w) (Rest 0) n;
      sized = ap length o.workers ∙ length-set c.workers w (phase_of (step S c w) w);
      next = o.next_low;
    }

-- a worker that may move is there, and a stamp is left
pub may_tells : (S : Setting) (c : Core) (w : ℕ) → may S c w ≡ true → (w < length c.workers) × (c.next < S.last)
may_tells S c w t =
    let a = both (nat_lt 0 w) (nat_lt w (length c.workers) && nat_lt c.next S.last) t in
    let d = both (nat_lt w (length c.workers)) (nat_lt c.next S.last) a.1 in
    (true_lt w (length c.workers) d.0, true_lt c.next S.last d.1)

turned : StepsAreOne → (S : Setting) (c : Core) (w : ℕ) → Turned w c (turn S c (Step w))
turned one S c w = by_if (Turned w c) (may S c w) (step S c w) c (λ t. stepped one S c w (may_tells S c w t).0) (λ t. still w c)

-- a worker that rests with no request or no stamp left
abbrev pub IsStuck : Setting → (w : ℕ) → Core → Type 0
IsStuck S w c = (resting (phase_of c w) ≡ true) × ((is_done S w (phase_of c w) ≡ true) ⊎ (S.last ≤ c.next))

-- it does nothing in its turn
pub stuck_stays : (S : Setting) (c : Core) (w : ℕ) → IsStuck S w c → turn S c (Step w) ≡ c
stuck_stays S c w h = by_if (λ z. z ≡ c) (may S c w) (step S c w) c
    (λ t. elim h.1 [
      | inl done ↦ ap (λ b. if b then c else settle S (settle S (micro S (begin S c w) w) w) w) done
      | inr last ↦ (let left = (may_tells S c w t).1 in absurd (omega (arith, left, last)))
    ])
    (λ t. refl)

-- there stay as many workers
turn_size : StepsAreOne → (S : Setting) (c : Core) (t : Turn) → length (turn S c t).workers ≡ length c.workers
turn_size one S c (Step w) = (turned one S c w).sized
turn_size one S c (Idle w) = by_if (λ (z : Core). length z.workers ≡ length c.workers) (may S c w) (idle c w) c
    (λ t. by_if (λ (z : Core). length z.workers ≡ length c.workers) (resting (phase_of c w)) _ c (λ r. refl) (λ r. refl))
    (λ t. refl)

turns_size : StepsAreOne → (S : Setting) (c : Core) (ts : List Turn) → length (after_turns S c ts).workers ≡ length c.workers
turns_size one S c [] = refl
turns_size one S c (t ∷ ts) = turns_size one S (turn S c t) ts ∙ turn_size one S c t

pub core_size : StepsAreOne → (l : OpenLeader) (ts : List Turn) → length (core_after l ts).workers ≡ suc (length l.firsts)
core_size one l ts = turns_size one (own_setting l) (first_core l) ts ∙ ap suc (length-map l.firsts Rest)

-- ---- lists of items and of stamps ----

by_own : (w : ℕ) (x : CoreItem) (xs : List CoreItem) → x.worker ≡ w → items_by w (x ∷ xs) ≡ x ∷ items_by w xs
by_own w x xs i = elim (eqb_tells x.worker w) [ inl e ↦ rw e.0 refl | inr e ↦ absurd (e.1 i) ]

by_other : (w : ℕ) (x : CoreItem) (xs : List CoreItem) → x.worker ≢ w → items_by w (x ∷ xs) ≡ items_by w xs
by_other w x xs n = elim (eqb_tells x.worker w) [ inl e ↦ absurd (n e.1) | inr e ↦ rw e.0 refl ]

place_other : (w : ℕ) (x : CoreItem) (xs : List CoreItem) → x.worker ≢ w → items_by w (insert_by_stamp x xs) ≡ items_by w xs
place_other w x [] n = by_other w x [] n
place_other w x (y ∷ ys) n = by_if (λ z. items_by w z ≡ items_by w (y ∷ ys)) (nat_lt x.stamp y.stamp) (x ∷ y ∷ ys) (y ∷ insert_by_stamp x ys)
    (λ e. by_other w x (y ∷ ys) n)
    (λ e. ap (λ z. if y.worker == w then y ∷ z else z) (place_other w x ys n))

place_none : (u w : ℕ) → u ≢ w → (item : Option CoreItem) → IfSome item (λ x. x.worker ≡ w) → (xs : List CoreItem)
    → items_by u (with_item item xs) ≡ items_by u xs
place_none u w n None h xs = refl
place_none u w n (Some x) h xs = place_other u x xs (λ e. n (sym e ∙ h))

-- stamps from b on that do not fall
abbrev Follows : ℕ → List CoreItem → Type 0
Follows b [] = Unit {0}
Follows b (x ∷ xs) = (b ≤ x.stamp) × Follows x.stamp xs

follows_down : (a b : ℕ) (xs : List CoreItem) → a ≤ b → Follows b xs → Follows a xs
follows_down a b [] l h = tt
follows_down a b (x ∷ xs) l h = (omega (arith, h.0), h.1)

-- worker w's are below t
abbrev OwnBelow : (w t : ℕ) → List CoreItem → Type 0
OwnBelow w t xs = (y : CoreItem) → In y xs → y.worker ≡ w → y.stamp < t

none_after : (w t : ℕ) (xs : List CoreItem) → Follows t xs → OwnBelow w t xs → items_by w xs ≡ []
none_after w t [] r h = refl
none_after w t (x ∷ xs) r h = elim (eqb_tells x.worker w) [
  | inl e ↦ absurd (omega (arith, h x (inl refl) e.1, r.0))
  | inr e ↦ rw e.0 (none_after w t xs (follows_down t x.stamp xs r.0 r.1) (λ y i. h y (inr i)))
]

-- an item above all others of its worker is the last of them
place_own : (w b : ℕ) (x : CoreItem) (xs : List CoreItem) → x.worker ≡ w → Follows b xs → OwnBelow w x.stamp xs
    → items_by w (insert_by_stamp x xs) ≡ items_by w xs ++ x ∷ []
place_own w b x [] i r h = by_own w x [] i
place_own w b x (y ∷ ys) i r h = by_if (λ z. items_by w z ≡ items_by w (y ∷ ys) ++ x ∷ []) (nat_lt x.stamp y.stamp) (x ∷ y ∷ ys) (y ∷ insert_by_stamp x ys)
    (λ e. let less = true_lt x.stamp y.stamp e in
    let none : items_by w (y ∷ ys) ≡ [] = none_after w x.stamp (y ∷ ys) (omega arith, r.1) h in
    by_own w x (y ∷ ys) i ∙ ap (λ z. x ∷ z) none ∙ ap (λ z. z ++ x ∷ []) (sym none))
    (λ e. let later = place_own w y.stamp x ys i r.1 (λ z j. h z (inr j)) in
    elim (eqb_tells y.worker w) [ inl k ↦ rw k.0 (ap (λ z. y ∷ z) later) | inr k ↦ rw k.0 later ])

place_last : (w b : ℕ) (item : Option CoreItem) → IfSome item (λ x. x.worker ≡ w) → (xs : List CoreItem) → Follows b xs
    → ((x : CoreItem) → item ≡ Some x → OwnBelow w x.stamp xs) → items_by w (with_item item xs) ≡ items_by w xs ++ option_to_list item
place_last w b None i xs r h = sym (append-nil (items_by w xs))
place_last w b (Some x) i xs r h = place_own w b x xs i r (h x refl)

ended_more : (w : ℕ) (o : Option CoreItem) → ((x : CoreItem) → o ≡ Some x → x.worker ≡ w) → (xs : List CoreItem)
    → reverse (items_by w (option_to_list o ++ xs)) ≡ reverse (items_by w xs) ++ option_to_list o
ended_more w None h xs = sym (append-nil (reverse (items_by w xs)))
ended_more w (Some x) h xs = ap reverse (by_own w x xs (h x refl)) ∙ reverse-append (x ∷ []) (items_by w xs)

pub stamps_own : (w n : ℕ) (ms : List (ℕ × ℕ)) (v : ℕ) → v ≡ w → stamps_by w ((v, n) ∷ ms) ≡ n ∷ stamps_by w ms
stamps_own w n ms v e = elim (eqb_tells v w) [ inl k ↦ rw k.0 refl | inr k ↦ absurd (k.1 e) ]

pub stamps_other : (w n : ℕ) (ms : List (ℕ × ℕ)) (v : ℕ) → v ≢ w → stamps_by w ((v, n) ∷ ms) ≡ stamps_by w ms
stamps_other w n ms v e = elim (eqb_tells v w) [ inl k ↦ absurd (e k.1) | inr k ↦ rw k.0 refl ]

stamps_none : (u w : ℕ) → u ≢ w → (item : Option CoreItem) → IfSome item (λ x. x.worker ≡ w) → (ms : List (ℕ × ℕ))
    → stamps_by u (option_to_list (option_map stamp_made item) ++ ms) ≡ stamps_by u ms
stamps_none u w n None h ms = refl
stamps_none u w n (Some x) h ms = stamps_other u x.stamp ms x.worker (λ e. n (sym e ∙ h))

abbrev stamps_of_items : Option CoreItem → List ℕ
stamps_of_items item = option_to_list (option_map (λ (x : CoreItem). x.stamp) item)

stamps_more : (w : ℕ) (item : Option CoreItem) → IfSome item (λ x. x.worker ≡ w) → (ms : List (ℕ × ℕ))
    → reverse (stamps_by w (option_to_list (option_map stamp_made item) ++ ms)) ≡ reverse (stamps_by w ms) ++ stamps_of_items item
stamps_more w None h ms = sym (append-nil (reverse (stamps_by w ms)))
stamps_more w (Some x) h ms = ap reverse (stamps_own w x.stamp ms x.worker h) ∙ reverse-append (x.stamp ∷ []) (stamps_by w ms)

pub in_stamps : (w n : ℕ) (ms : List (ℕ × ℕ)) → In (w, n) ms → In n (stamps_by w ms)
in_stamps w n [] i = absurd i
in_stamps w n (m ∷ ms) i = elim (eqb_tells m.0 w) [
  | inl e ↦ rw e.0 (elim i [ inl k ↦ inl (ap (λ (p : ℕ × ℕ). p.1) k) | inr j ↦ inr (in_stamps w n ms j) ])
  | inr e ↦ rw e.0 (elim i [ inl k ↦ absurd (e.1 (sym (ap (λ (p : ℕ × ℕ). p.0) k))) | inr j ↦ in_stamps w n ms j ])
]

pub stamps_in : (w n : ℕ) (ms : List (ℕ × ℕ)) → In n (stamps_by w ms) → In (w, n) ms
stamps_in w n [] i = absurd i
stamps_in w n (m ∷ ms) i = elim (eqb_tells m.0 w) [
  | inl e ↦ elim (rw e.0 at i) [ inl k ↦ inl (pair w n m.0 m.1 (sym e.1) k) | inr j ↦ inr (stamps_in w n ms j) ]
  | inr e ↦ inr (stamps_in w n ms (rw e.0 at i))
]
  where
    pair : (a b c d : ℕ) → a ≡ c → b ≡ d → ◌≡◌ {A = ℕ × ℕ} (a, b) (c, d)
    pair a b c d p q = λ i. (p i, q i)

pub under_in : (t n : ℕ) (xs : List ℕ) → AllUnder t xs → In n xs → n < t
under_in t n [] h i = absurd i
under_in t n (x ∷ xs) h i = elim i [ inl e ↦ subst (λ k. k < t) (sym e) h.0 | inr j ↦ under_in t n xs h.1 j ]

newly : {A : Type 0} (xs : List A) (o : Option A)
    → (if nat_lt (length xs) (length (option_to_list o ++ xs)) then slice_get (option_to_list o ++ xs) 0 else None) ≡ o
newly xs None = ap (λ b. if b then slice_get xs 0 else None) (lt_false (length xs) (length xs) (omega arith))
newly xs (Some x) = ap (λ b. if b then Some x else None) (lt_true (length xs) (suc (length xs)) (omega arith))

-- what stands behind the first of strictly rising numbers
pub strictly_rest : (n : ℕ) (ns : List ℕ) → IsStrictlyIncreasing (n ∷ ns) → IsStrictlyIncreasing ns
strictly_rest n ns h k less = subst (λ j. get_or ns k 0 < get_or (n ∷ ns) j 0) (next k) (h (suc k) (omega (arith, less)))
  where
    next : (k : ℕ) → suc k + 1 ≡ suc (k + 1)
    next k = omega arith

-- strictly rising stamps as they are seen rise
seen_tail : (e : ℕ) (x : CoreItem) (xs : List CoreItem) → ((y : CoreItem) → In y (x ∷ xs) → e * 2 ^ 40 ≤ y.stamp)
    → IsStrictlyIncreasing (map (λ (i : Item). packed i.stamp) (items_seen e (x ∷ xs))) → Follows x.stamp xs
seen_tail e x [] low h = tt
seen_tail e x (y ∷ ys) low h = (
  order e x.stamp y.stamp (low x (inl refl)) (low y (inr (inl refl))) (h 0 (omega arith)),
  seen_tail e y ys (λ z i. low z (inr i)) (strictly_rest (packed (item_seen e x).stamp) (map (λ (i : Item). packed i.stamp) (items_seen e (y ∷ ys))) h),
)
  where
    order : (e a b : ℕ) → e * 2 ^ 40 ≤ a → e * 2 ^ 40 ≤ b → e * 2 ^ 40 + (a - e * 2 ^ 40) < e * 2 ^ 40 + (b - e * 2 ^ 40) → a ≤ b
    order e a b p q r = omega arith

seen_follows : (e : ℕ) (xs : List CoreItem) → ((y : CoreItem) → In y xs → e * 2 ^ 40 ≤ y.stamp)
    → IsStrictlyIncreasing (map (λ (i : Item). packed i.stamp) (items_seen e xs)) → Follows 0 xs
seen_follows e [] low h = tt
seen_follows e (x ∷ xs) low h = (omega arith, seen_tail e x xs low h)

-- ---- the core of a leader after some turns ----

module _ (b : Below) (l : OpenLeader) (ts : List Turn) where
  abbrev now : Core
  now = core_after l ts

  range : IsInRange l (length ts) now
  range = b.in_range l ts

  -- what is decided was made, and what was made is in range
  pub was_made : (x : CoreItem) → In x now.decided → In (x.worker, x.stamp) now.made
  was_made x i = contains_in now.made (x.worker, x.stamp) (all_in (λ (y : CoreItem). Contains now.made (stamp_made y)) now.decided range.decided x i)

  pub made_between : (w n : ℕ) → In (w, n) now.made → MadeBetween (length l.firsts) (l.epoch * 2 ^ 40 + 2) now.next (w, n)
  made_between w n i = all_in (MadeBetween (length l.firsts) (l.epoch * 2 ^ 40 + 2) now.next) now.made range.made (w, n) i

  pub in_order : (w : ℕ) → items_by w now.decided ≡ ended_by w now ++ option_to_list (installing (phase_of now w))
  in_order w = b.end_in_order l ts w

-- ---- a turn of worker w ----

module _ (b : Below) (l : OpenLeader) (fits : CoreFits l) (ts : List Turn) (w : ℕ) where
  abbrev before : Core
  before = core_after l ts

  abbrev after : Core
  after = core_after l (ts ++ Step w ∷ [])

  pub turn_of : Turned w before after
  turn_of = subst (Turned w before) (sym (core_more l ts (Step w))) (turned b.steps_are_one (own_setting l) before w)

  pub others_made : (u : ℕ) → u ≢ w → stamps_by u after.made ≡ stamps_by u before.made
  others_made u n = ap (stamps_by u) turn_of.made ∙ stamps_none u w n turn_of.item turn_of.of_item before.made

  -- no other worker's item ends
  pub others_ended : (u : ℕ) → u ≢ w → ended_by u after ≡ ended_by u before
  others_ended u n = append_cancel_right (ended_by u after) (ended_by u before) (option_to_list (installing (phase_of before u))) (
      ap (λ p. ended_by u after ++ option_to_list (installing p)) (sym (turn_of.others u n))
      ∙ sym (in_order b l (ts ++ Step w ∷ []) u)
      ∙ ap (items_by u) turn_of.decided
      ∙ place_none u w n turn_of.item turn_of.of_item before.decided
      ∙ in_order b l ts u
      )

  own_over : (x : CoreItem) → turn_of.over ≡ Some x → x.worker ≡ w
  own_over x is = elim (eqb_tells x.worker w) [
    | inl e ↦ e.1
    | inr e ↦ absurd (let same = ap length (others_ended x.worker e.1) in omega (arith, same, longer))
  ]
    where
      longer : length (ended_by x.worker after) ≡ suc (length (ended_by x.worker before))
      longer = ap (λ xs. length (reverse (items_by x.worker xs))) (turn_of.ended ∙ ap (λ o. option_to_list o ++ before.ended) is)
          ∙ ap (λ xs. length (reverse xs)) (by_own x.worker x before.ended refl)
          ∙ length-reverse (x ∷ items_by x.worker before.ended) ∙ ap suc (sym (length-reverse (items_by x.worker before.ended)))

  pub own_ended : ended_by w after ≡ ended_by w before ++ option_to_list turn_of.over
  own_ended = ap (λ xs. reverse (items_by w xs)) turn_of.ended ∙ ended_more w turn_of.over own_over before.ended

  rising : Follows 0 before.decided
  rising = seen_follows l.epoch before.decided
      (λ y i. let m = made_between b l ts y.worker y.stamp (was_made b l ts y i) in omega (arith, m.above))
      (b.serially l ts fits).rising

  new_above : (x : CoreItem) → turn_of.item ≡ Some x → OwnBelow w x.stamp before.decided
  new_above x is y i own =
      let of_w : x.worker ≡ w = subst (λ o. IfSome o (λ z. z.worker ≡ w)) is turn_of.of_item in
      let made : after.made ≡ (x.worker, x.stamp) ∷ before.made = turn_of.made ∙ ap (λ o. option_to_list (option_map stamp_made o) ++ before.made) is in
      let falls : IsFalling (x.stamp ∷ stamps_by w before.made) =
      subst IsFalling (ap (stamps_by w) made ∙ stamps_own w x.stamp before.made x.worker of_w) (b.rise l (ts ++ Step w ∷ []) w) in
      under_in x.stamp y.stamp (stamps_by w before.made) falls.0
      (in_stamps w y.stamp before.made (subst (λ v. In (v, y.stamp) before.made) own (was_made b l ts y i)))

  pub own_decided : items_by w after.decided ≡ items_by w before.decided ++ option_to_list turn_of.item
  own_decided = ap (items_by w) turn_of.decided ∙ place_last w 0 turn_of.item turn_of.of_item before.decided rising new_above

  pub own_made : reverse (stamps_by w after.made) ≡ reverse (stamps_by w before.made) ++ stamps_of_items turn_of.item
  own_made = ap (λ ms. reverse (stamps_by w ms)) turn_of.made ∙ stamps_more w turn_of.item turn_of.of_item before.made

  pub ended_is : newly_ended before after ≡ turn_of.over
  ended_is = ap (λ xs. if nat_lt (length before.ended) (length xs) then slice_get xs 0 else None) turn_of.ended ∙ newly before.ended turn_of.over

  pub refused_is : newly_refused before after ≡ turn_of.refusal
  refused_is = ap (λ xs. if nat_lt (length before.refusals) (length xs) then slice_get xs 0 else None) turn_of.refusals ∙ newly before.refusals turn_of.refusal
