-- What a stream says of its worker stays true through turns, proposals and marks.
use Rattle.std.proofs.Common.{◌≡◌, ◌≢◌, ◌⊎◌, ℕ, zero, suc, ◌+◌, ◌-◌, ◌*◌, ◌^◌, ◌<◌, ◌≤◌, List, [], ◌∷◌, ◌++◌, length, map, get_or, Bool, true, false, ◌&&◌, nat_lt, if◌then◌else◌, reverse, Option, Some, None, option_to_list, option_map, refl, sym, ap, ◌∙◌, subst, arith, inl, inr, append_assoc, append-nil}
use mathlib.Core.Bool.{false≢true}
use Rattle.std.proofs.lemmas.Bool.{cases_lt}
use Rattle.std.proofs.lemmas.Bool.Decides.{eqb_tells}
use Rattle.std.proofs.lemmas.List.{append_cancel_left, reverse-append, map-append}
use Rattle.rl_base.specs.declared.stamp.Stamp.{Stamp}
use Rattle.rl_base.specs.Order.{IsBelow}
use Rattle.rl_base.proofs.Members.{In, in_prefix, in_suffix, in_split, in_map, map_in}
use Rattle.rl_base.proofs.Tests.{lt_true, both_true}
use Rattle.rl_txn.specs.declared.batch.Batch.{Batch}
use Rattle.rl_txn.specs.declared.batch.Batch.TheVariants.{Items}
use Rattle.rl_txn.specs.declared.item.Item.{Item}
use Rattle.rl_families.specs.Logs.{stamps_along, items_along}
use Rattle.rl_families.proofs.Logs.{stamps_along-append, items_along-append}
use Rattle.rl_families.proofs.Rising.{Rises, rises_append}
use Rattle.rl_worker.specs.Items.{CoreItem}
use Rattle.rl_worker.specs.Phases.{Phase, Rest, Asking, Wanting, Loading, Locking, Validating, Storing, Refusing, Setting}
use Rattle.rl_worker.specs.Acts.{Core, Turn, Step, Idle, phase_of, resting, is_done, may, idle}
use Rattle.rl_worker.specs.Laws.{IsFalling, stamps_by}
use Rattle.rl_worker.specs.OneTurn.{items_by, ended_by, installing}
use Rattle.rl_worker.specs.Opening.{OpenLeader, CoreFits, core_after, item_seen, items_seen, at_rest}
use Rattle.rl_nodes.specs.Batches.{END_SEQ, idle_mark}
use Rattle.rl_safe.proofs.Below.{Below}
use Rattle.rl_safe.proofs.CoreTurns.{by_if, core_more, core_size, own_setting, Turned, IsStuck, may_tells, stuck_stays, stamps_own, stamps_other, stamps_in, under_in, made_between, in_order, turn_of, others_made, others_ended, own_ended, own_decided, own_made}
use Rattle.rl_safe.proofs.Accounts.{Says, stamp_at, end_stamps}

-- ---- plain lists ----

in_reverse : {A : Type 0} (x : A) (xs : List A) → In x (reverse xs) → In x xs
in_reverse x [] i = i
in_reverse x (y ∷ ys) i = elim (in_split (reverse ys) (y ∷ []) x (subst (λ zs. In x zs) (reverse-append (y ∷ []) ys) i)) [
  | inl j ↦ inr (in_reverse x ys j)
  | inr j ↦ elim j [ inl e ↦ inl e | inr a ↦ absurd a ]
]

-- of two lists behind another one of which is empty, the order does not matter
swapped : {A : Type 0} (xs ys zs : List A) → (ys ≡ []) ⊎ (zs ≡ []) → (xs ++ ys) ++ zs ≡ (xs ++ zs) ++ ys
swapped xs ys zs h = elim h [
  | inl e ↦ ap (λ v. (xs ++ v) ++ zs) e ∙ ap (λ v. v ++ zs) (append-nil xs) ∙ sym (append-nil (xs ++ zs)) ∙ ap (λ v. (xs ++ zs) ++ v) (sym e)
  | inr e ↦ ap (λ v. (xs ++ ys) ++ v) e ∙ append-nil (xs ++ ys) ∙ ap (λ v. v ++ ys) (sym (append-nil xs)) ∙ ap (λ v. (xs ++ v) ++ ys) (sym e)
]

pub none_installed : (p : Phase) → resting p ≡ true → installing p ≡ None
none_installed (Rest q) h = refl
none_installed (Asking q reads) h = absurd (false≢true h)
none_installed (Wanting q reads r) h = absurd (false≢true h)
none_installed (Loading q reads r seen loaded) h = absurd (false≢true h)
none_installed (Locking q reads answer locked todo) h = absurd (false≢true h)
none_installed (Validating q t done todo answer writes) h = absurd (false≢true h)
none_installed (Storing item j todo) h = absurd (false≢true h)
none_installed (Refusing q todo) h = absurd (false≢true h)

rests : (firsts : List ℕ) (s : ℕ) → installing (get_or (map Rest firsts) s (Rest 0)) ≡ None
rests [] s = refl
rests (q ∷ qs) zero = refl
rests (q ∷ qs) (suc s) = rests qs s

rests_first : (firsts : List ℕ) (s : ℕ) → installing (get_or (at_rest firsts) s (Rest 0)) ≡ None
rests_first firsts zero = refl
rests_first firsts (suc s) = rests firsts s

abbrev stamps_of : List Item → List Stamp
stamps_of xs = map (λ (x : Item). x.stamp) xs

seen_stamps : (e : ℕ) (item : Option CoreItem)
    → stamps_of (items_seen e (option_to_list item)) ≡ map (stamp_at e) (option_to_list (option_map (λ (x : CoreItem). x.stamp) item))
seen_stamps e None = refl
seen_stamps e (Some x) = refl

no_more : {A : Type 0} (o : Option A) (xs ys : List A) → ys ≡ option_to_list o ++ xs → ys ≡ xs → o ≡ None
no_more None xs ys p q = refl
no_more (Some x) xs ys p q = absurd (let k = ap length p in let m = ap length q in omega (arith, k, m))

abbrev installed : (e s : ℕ) → Core → List Item
installed e s c = items_seen e (option_to_list (installing (phase_of c s)))

-- ---- the opening ----

pub says_first : (l : OpenLeader) (s : ℕ) → Says (own_setting l) l.epoch s [] (core_after l []) []
says_first l s = record {
  ends = false;
  items = refl;
  stamps = ap (λ o. stamps_of (items_seen l.epoch (option_to_list o))) (rests_first l.firsts s);
  stuck = λ h. absurd (false≢true h);
}

-- ---- proposals ----

module _ (S : Setting) (e s : ℕ) (batches : List Batch) (c : Core) where
  -- all that is pending is proposed
  pub says_items : (xs : List Item) → Says S e s batches c xs → Says S e s (batches ++ Items xs ∷ []) c []
  says_items xs h = record {
    ends = h.ends;
    items = append-nil (items_along (batches ++ Items xs ∷ [])) ∙ items_along-append batches (Items xs ∷ [])
        ∙ ap (λ z. items_along batches ++ z) (append-nil xs) ∙ h.items;
    stamps = ap (λ z. z ++ stamps_of (installed e s c)) (stamps_along-append batches (Items xs ∷ []) ∙ ap (λ z. stamps_along batches ++ z) (append-nil (stamps_of xs)))
        ∙ append_assoc (stamps_along batches) (stamps_of xs) (stamps_of (installed e s c))
        ∙ ap (λ z. stamps_along batches ++ z) (sym (map-append (λ (x : Item). x.stamp) xs (installed e s c)))
        ∙ h.stamps;
    stuck = λ ends. ((h.stuck ends).0, refl);
  }

  -- a worker that rests and has nothing pending
  none_said : Says S e s batches c [] → resting (phase_of c s) ≡ true → (h : Says S e s batches c [])
      → stamps_along batches ≡ map (stamp_at e) (reverse (stamps_by s c.made)) ++ end_stamps e h.ends
  none_said k rest h =
      sym (append-nil (stamps_along batches))
      ∙ ap (λ o. stamps_along batches ++ stamps_of (items_seen e (option_to_list o))) (sym (none_installed (phase_of c s) rest))
      ∙ h.stamps

  mark_items : (q : ℕ) (d : Core) → (h : Says S e s batches c []) → ended_by s d ≡ ended_by s c
      → items_along (batches ++ idle_mark e q ∷ []) ++ [] ≡ items_seen e (ended_by s d)
  mark_items q d h same = ap (λ z. z ++ []) (items_along-append batches (idle_mark e q ∷ []) ∙ append-nil (items_along batches)) ∙ h.items ∙ ap (items_seen e) (sym same)

  mark_stamps : (q : ℕ) → (h : Says S e s batches c []) → h.ends ≡ false → resting (phase_of c s) ≡ true
      → stamps_along (batches ++ idle_mark e q ∷ []) ≡ map (stamp_at e) (reverse (stamps_by s c.made)) ++ record { epoch = e; seq = q } ∷ []
  mark_stamps q h unended rest =
      stamps_along-append batches (idle_mark e q ∷ [])
      ∙ ap (λ z. z ++ record { epoch = e; seq = q } ∷ []) (none_said h rest h ∙ ap (λ b. map (stamp_at e) (reverse (stamps_by s c.made)) ++ end_stamps e b) unended
      ∙ append-nil (map (stamp_at e) (reverse (stamps_by s c.made))))

  -- the end mark is proposed
  pub says_end : (h : Says S e s batches c []) → h.ends ≡ false → IsStuck S s c → Says S e s (batches ++ idle_mark e END_SEQ ∷ []) c []
  says_end h unended stuck = record {
    ends = true;
    items = mark_items END_SEQ c h refl;
    stamps = ap (λ o. stamps_along (batches ++ idle_mark e END_SEQ ∷ []) ++ stamps_of (items_seen e (option_to_list o))) (none_installed (phase_of c s) stuck.0)
        ∙ append-nil (stamps_along (batches ++ idle_mark e END_SEQ ∷ []))
        ∙ mark_stamps END_SEQ h unended stuck.0;
    stuck = λ t. (stuck, refl);
  }

  -- an idle mark of a stamp that is drawn for it
  abbrev pub drawn : Core
  drawn = record c { next = suc c.next; made = (s, c.next) ∷ c.made }

  pub says_drawn : (h : Says S e s batches c []) → h.ends ≡ false → resting (phase_of c s) ≡ true
      → Says S e s (batches ++ idle_mark e (c.next - e * 2 ^ 40) ∷ []) drawn []
  says_drawn h unended rest = record {
    ends = false;
    items = mark_items (c.next - e * 2 ^ 40) drawn h refl;
    stamps = ap (λ o. stamps_along (batches ++ idle_mark e (c.next - e * 2 ^ 40) ∷ []) ++ stamps_of (items_seen e (option_to_list o))) (none_installed (phase_of c s) rest)
        ∙ append-nil (stamps_along (batches ++ idle_mark e (c.next - e * 2 ^ 40) ∷ []))
        ∙ mark_stamps (c.next - e * 2 ^ 40) h unended rest
        ∙ sym (append-nil (map (stamp_at e) (reverse (stamps_by s drawn.made)))
        ∙ ap (λ ns. map (stamp_at e) (reverse ns)) (stamps_own s c.next c.made s refl)
        ∙ ap (map (stamp_at e)) (reverse-append (c.next ∷ []) (stamps_by s c.made))
        ∙ map-append (stamp_at e) (reverse (stamps_by s c.made)) (c.next ∷ []));
    stuck = λ t. absurd (false≢true t);
  }

-- another worker's core goes on
pub says_on : (S : Setting) (e s : ℕ) (batches : List Batch) (c d : Core) (xs : List Item) → Says S e s batches c xs
    → ended_by s d ≡ ended_by s c → stamps_by s d.made ≡ stamps_by s c.made → phase_of d s ≡ phase_of c s → c.next ≤ d.next → Says S e s batches d xs
says_on S e s batches c d xs h ended made phase next = record {
  ends = h.ends;
  items = h.items ∙ ap (items_seen e) (sym ended);
  stamps = ap (λ p. stamps_along batches ++ stamps_of (xs ++ items_seen e (option_to_list (installing p)))) phase
      ∙ h.stamps ∙ ap (λ ns. map (stamp_at e) (reverse ns) ++ end_stamps e h.ends) (sym made);
  stuck = λ t. let k = h.stuck t in (
    (
      subst (λ p. resting p ≡ true) (sym phase) k.0.0,
      elim k.0.1 [ inl done ↦ inl (subst (λ p. is_done S s p ≡ true) (sym phase) done) | inr last ↦ inr (omega (arith, last, next)) ],
    ),
    k.1,
  );
}

-- ---- a turn ----

module _ (b : Below) (l : OpenLeader) (fits : CoreFits l) (ts : List Turn) (w : ℕ) where
  abbrev before : Core
  before = core_after l ts

  abbrev after : Core
  after = core_after l (ts ++ Step w ∷ [])

  abbrev S : Setting
  S = own_setting l

  abbrev T : Turned w before after
  T = turn_of b l fits ts w

  abbrev seen : List CoreItem → List Item
  seen xs = items_seen l.epoch xs

  seen-append : (xs ys : List CoreItem) → seen (xs ++ ys) ≡ seen xs ++ seen ys
  seen-append xs ys = map-append (item_seen l.epoch) xs ys

  pub says_others : (s : ℕ) → s ≢ w → (batches : List Batch) (xs : List Item) → Says S l.epoch s batches before xs → Says S l.epoch s batches after xs
  says_others s n batches xs h = says_on S l.epoch s batches before after xs h (others_ended b l fits ts w s n) (others_made b l fits ts w s n) (T.others s n) T.next

  module _ (batches : List Batch) (xs : List Item) (h : Says S l.epoch w batches before xs) where
    abbrev more : List Item
    more = xs ++ seen (option_to_list T.over)

    stuck_same : h.ends ≡ true → after ≡ before
    stuck_same t = core_more l ts (Step w) ∙ stuck_stays S before w (h.stuck t).0

    stuck_over : h.ends ≡ true → T.over ≡ None
    stuck_over t = no_more T.over before.ended after.ended T.ended (ap (λ (c : Core). c.ended) (stuck_same t))

    none_made : (o : Option CoreItem) (ms ns : List (ℕ × ℕ)) → ns ≡ option_to_list (option_map (λ (x : CoreItem). (x.worker, x.stamp)) o) ++ ms → ns ≡ ms → o ≡ None
    none_made None ms ns p q = refl
    none_made (Some x) ms ns p q = absurd (let k = ap length p in let m = ap length q in omega (arith, k, m))

    stuck_item : h.ends ≡ true → T.item ≡ None
    stuck_item t = none_made T.item before.made after.made T.made (ap (λ (c : Core). c.made) (stuck_same t))

    told : items_along batches ++ more ≡ seen (ended_by w after)
    told = sym (append_assoc (items_along batches) xs (seen (option_to_list T.over)))
        ∙ ap (λ z. z ++ seen (option_to_list T.over)) h.items
        ∙ sym (seen-append (ended_by w before) (option_to_list T.over))
        ∙ ap seen (sym (own_ended b l fits ts w))

    -- what is pending and what is installed is as before, and then what is decided in the turn
    pending_is : more ++ installed l.epoch w after ≡ (xs ++ installed l.epoch w before) ++ seen (option_to_list T.item)
    pending_is = append_cancel_left (items_along batches) (more ++ installed l.epoch w after) ((xs ++ installed l.epoch w before) ++ seen (option_to_list T.item)) (
        sym (append_assoc (items_along batches) more (installed l.epoch w after))
        ∙ ap (λ z. z ++ installed l.epoch w after) told
        ∙ sym (seen-append (ended_by w after) (option_to_list (installing (phase_of after w))))
        ∙ ap seen (sym (in_order b l (ts ++ Step w ∷ []) w) ∙ own_decided b l fits ts w ∙ ap (λ z. z ++ option_to_list T.item) (in_order b l ts w))
        ∙ seen-append (ended_by w before ++ option_to_list (installing (phase_of before w))) (option_to_list T.item)
        ∙ ap (λ z. z ++ seen (option_to_list T.item)) (seen-append (ended_by w before) (option_to_list (installing (phase_of before w)))
        ∙ ap (λ z. z ++ installed l.epoch w before) (sym h.items)
        ∙ append_assoc (items_along batches) xs (installed l.epoch w before))
        ∙ append_assoc (items_along batches) (xs ++ installed l.epoch w before) (seen (option_to_list T.item))
        )

    one_of : (e : Bool) → (e ≡ true → T.item ≡ None) → (end_stamps l.epoch e ≡ []) ⊎ (stamps_of (seen (option_to_list T.item)) ≡ [])
    one_of true f = inr (ap (λ o. stamps_of (seen (option_to_list o))) (f refl))
    one_of false f = inl refl

    abbrev made_stamps : Core → List Stamp
    made_stamps c = map (stamp_at l.epoch) (reverse (stamps_by w c.made))

    pub says_own : Says S l.epoch w batches after more
    says_own = record {
      ends = h.ends;
      items = told;
      stamps = ap (λ z. stamps_along batches ++ stamps_of z) pending_is
          ∙ ap (λ z. stamps_along batches ++ z) (map-append (λ (x : Item). x.stamp) (xs ++ installed l.epoch w before) (seen (option_to_list T.item)))
          ∙ sym (append_assoc (stamps_along batches) (stamps_of (xs ++ installed l.epoch w before)) (stamps_of (seen (option_to_list T.item))))
          ∙ ap (λ z. z ++ stamps_of (seen (option_to_list T.item))) h.stamps
          ∙ swapped (made_stamps before) (end_stamps l.epoch h.ends) (stamps_of (seen (option_to_list T.item))) (one_of h.ends stuck_item)
          ∙ ap (λ z. z ++ end_stamps l.epoch h.ends) (
          ap (λ z. made_stamps before ++ z) (seen_stamps l.epoch T.item)
          ∙ sym (map-append (stamp_at l.epoch) (reverse (stamps_by w before.made)) (option_to_list (option_map (λ (x : CoreItem). x.stamp) T.item)))
          ∙ ap (map (stamp_at l.epoch)) (sym (own_made b l fits ts w))
          );
      stuck = λ t. (
        subst (IsStuck S w) (sym (stuck_same t)) (h.stuck t).0,
        ap (λ o. xs ++ seen (option_to_list o)) (stuck_over t) ∙ append-nil xs ∙ (h.stuck t).1,
      );
    }

-- ---- an idle mark ----

module _ (b : Below) (l : OpenLeader) (ts : List Turn) (w : ℕ) (first : 1 ≤ w) (last : w ≤ length l.firsts) where
  abbrev rested : Core
  rested = core_after l ts

  abbrev idled : Core
  idled = core_after l (ts ++ Idle w ∷ [])

  drawn_is : rested.next < (own_setting l).last → resting (phase_of rested w) ≡ true
      → idled ≡ record rested { next = suc rested.next; made = (w, rested.next) ∷ rested.made }
  drawn_is left rest =
      core_more l ts (Idle w)
      ∙ ap (λ t. if t then idle rested w else rested) (both_true (nat_lt 0 w) (nat_lt w (length rested.workers) && nat_lt rested.next (own_setting l).last) (lt_true 0 w (omega (arith, first)))
      (both_true (nat_lt w (length rested.workers)) (nat_lt rested.next (own_setting l).last)
      (lt_true w (length rested.workers) (let size = core_size b.steps_are_one l ts in omega (arith, last, size))) (lt_true rested.next (own_setting l).last left)))
      ∙ ap (λ t. if t then record rested { next = suc rested.next; made = (w, rested.next) ∷ rested.made } else rested) rest

  undrawn_is : (own_setting l).last ≤ rested.next → idled ≡ rested
  undrawn_is none = core_more l ts (Idle w) ∙ by_if (λ z. z ≡ rested) (may (own_setting l) rested w) (idle rested w) rested
      (λ t. let left = (may_tells (own_setting l) rested w t).1 in absurd (omega (arith, left, none))) (λ t. refl)

  pub says_idle : (batches : List Batch) → (h : Says (own_setting l) l.epoch w batches rested []) → h.ends ≡ false → resting (phase_of rested w) ≡ true
      → Says (own_setting l) l.epoch w (batches ++ idle_mark l.epoch (rested.next - l.epoch * 2 ^ 40) ∷ []) idled []
  says_idle batches h unended rest = elim (cases_lt rested.next (own_setting l).last) [
    | inl left ↦ subst (λ c. Says (own_setting l) l.epoch w (batches ++ idle_mark l.epoch (rested.next - l.epoch * 2 ^ 40) ∷ []) c []) (sym (drawn_is left rest))
        (says_drawn (own_setting l) l.epoch w batches rested h unended rest)
    | inr none ↦
        subst (λ c. Says (own_setting l) l.epoch w (batches ++ idle_mark l.epoch (rested.next - l.epoch * 2 ^ 40) ∷ []) c []) (sym (undrawn_is none))
        (subst (λ q. Says (own_setting l) l.epoch w (batches ++ idle_mark l.epoch q ∷ []) rested []) (sym (full none))
        (says_end (own_setting l) l.epoch w batches rested h unended (rest, inr none)))
  ]
    where
      full : (own_setting l).last ≤ rested.next → rested.next - l.epoch * 2 ^ 40 ≡ END_SEQ
      full none = let high = (b.in_range l ts).high in omega (arith, none, high)

  pub says_idle_others : (s : ℕ) → s ≢ w → (batches : List Batch) (xs : List Item) → resting (phase_of rested w) ≡ true
      → Says (own_setting l) l.epoch s batches rested xs → Says (own_setting l) l.epoch s batches idled xs
  says_idle_others s n batches xs rest h = elim (cases_lt rested.next (own_setting l).last) [
    | inl left ↦ subst (λ c. Says (own_setting l) l.epoch s batches c xs) (sym (drawn_is left rest))
        (says_on (own_setting l) l.epoch s batches rested (record rested { next = suc rested.next; made = (w, rested.next) ∷ rested.made }) xs h refl
        (stamps_other s rested.next rested.made w (λ e. n (sym e))) refl (omega arith))
    | inr none ↦ subst (λ c. Says (own_setting l) l.epoch s batches c xs) (sym (undrawn_is none)) h
  ]

-- ---- what the stamps of a stream are ----

falling_rise : (e : ℕ) (ns : List ℕ) → IsFalling ns → ((n : ℕ) → In n ns → e * 2 ^ 40 ≤ n) → Rises (map (stamp_at e) (reverse ns))
falling_rise e [] h low = tt
falling_rise e (n ∷ ns) h low =
    subst Rises (sym (ap (map (stamp_at e)) (reverse-append (n ∷ []) ns) ∙ map-append (stamp_at e) (reverse ns) (n ∷ [])))
    (rises_append (map (stamp_at e) (reverse ns)) (stamp_at e n ∷ []) (falling_rise e ns h.1 (λ m i. low m (inr i))) (tt, tt) above)
  where
    less : (m : ℕ) → e * 2 ^ 40 ≤ m → m < n → m - e * 2 ^ 40 < n - e * 2 ^ 40
    less m p q = omega (arith, p, q)

    above : (s t : Stamp) → In s (map (stamp_at e) (reverse ns)) → In t (stamp_at e n ∷ []) → IsBelow s t
    above s t i j =
        let m = map_in (stamp_at e) s (reverse ns) i in
        let k = in_reverse m.0 ns m.1 in
        let below : IsBelow (stamp_at e m.0) (stamp_at e n) = inr (refl, less m.0 (low m.0 (inr k)) (under_in n m.0 ns h.0 k)) in
        elim j [ inl same ↦ subst (λ u. IsBelow u t) m.2 (subst (IsBelow (stamp_at e m.0)) (sym same) below) | inr a ↦ absurd a ]

module _ (b : Below) (l : OpenLeader) (ts : List Turn) (s : ℕ) where
  abbrev current : Core
  current = core_after l ts

  made_low : (n : ℕ) → In n (stamps_by s current.made) → (l.epoch * 2 ^ 40 + 2 ≤ n) × (n < l.epoch * 2 ^ 40 + (2 ^ 40 - 1))
  made_low n i =
      let m = made_between b l ts s n (stamps_in s n current.made i) in
      let high = (b.in_range l ts).high in
      (m.above, omega (arith, m.below, high))

  -- a stamp of the epoch, from the first on that is drawn
  pub record Own (t : Stamp) : Type 0 where
    pub epoch : t.epoch ≡ l.epoch
    pub low : 2 ≤ t.seq
    pub high : t.seq ≤ END_SEQ

  made_own : (t : Stamp) → In t (map (stamp_at l.epoch) (reverse (stamps_by s current.made))) → Own t
  made_own t i =
      let m = map_in (stamp_at l.epoch) t (reverse (stamps_by s current.made)) i in
      let range = made_low m.0 (in_reverse m.0 (stamps_by s current.made) m.1) in
      subst Own m.2 (record { epoch = refl; low = omega (arith, range.0); high = omega (arith, range.1) })

  end_own : (e : Bool) (t : Stamp) → In t (end_stamps l.epoch e) → Own t
  end_own false t i = absurd i
  end_own true t i = elim i [ inl same ↦ subst Own (sym same) (record { epoch = refl; low = omega arith; high = omega arith }) | inr a ↦ absurd a ]

  end_above : (e : Bool) (u t : Stamp) → In u (map (stamp_at l.epoch) (reverse (stamps_by s current.made))) → In t (end_stamps l.epoch e) → IsBelow u t
  end_above false u t i j = absurd j
  end_above true u t i j =
      let m = map_in (stamp_at l.epoch) u (reverse (stamps_by s current.made)) i in
      let range = made_low m.0 (in_reverse m.0 (stamps_by s current.made) m.1) in
      let below : IsBelow (stamp_at l.epoch m.0) (record { epoch = l.epoch; seq = END_SEQ }) = inr (refl, omega (arith, range.0, range.1)) in
      elim j [ inl same ↦ subst (λ v. IsBelow v t) m.2 (subst (IsBelow (stamp_at l.epoch m.0)) (sym same) below) | inr a ↦ absurd a ]

  end_rises : (e : Bool) → Rises (end_stamps l.epoch e)
  end_rises false = tt
  end_rises true = (tt, tt)

  module _ (batches : List Batch) (xs : List Item) (h : Says (own_setting l) l.epoch s batches current xs) where
    abbrev said : List Stamp
    said = stamps_along batches ++ stamps_of (xs ++ installed l.epoch s current)

    pub said_own : (t : Stamp) → In t said → Own t
    said_own t i = elim (in_split (map (stamp_at l.epoch) (reverse (stamps_by s current.made))) (end_stamps l.epoch h.ends) t (subst (λ z. In t z) h.stamps i)) [
      | inl j ↦ made_own t j
      | inr j ↦ end_own h.ends t j
    ]

    pub said_rise : Rises said
    said_rise = subst Rises (sym h.stamps)
        (rises_append (map (stamp_at l.epoch) (reverse (stamps_by s current.made))) (end_stamps l.epoch h.ends)
        (falling_rise l.epoch (stamps_by s current.made) (b.rise l ts s) (λ n i. let r = (made_low n i).0 in omega (arith, r)))
        (end_rises h.ends) (end_above h.ends))

    -- where the end mark was proposed, it stands along the stream
    pub end_said : h.ends ≡ true → In (record { epoch = l.epoch; seq = END_SEQ }) (stamps_along batches)
    end_said t =
        let stuck = h.stuck t in
        let end : Stamp = record { epoch = l.epoch; seq = END_SEQ } in
        let right : In end (map (stamp_at l.epoch) (reverse (stamps_by s current.made)) ++ end_stamps l.epoch h.ends) =
        in_suffix (map (stamp_at l.epoch) (reverse (stamps_by s current.made))) (end_stamps l.epoch h.ends) end (subst (λ e. In end (end_stamps l.epoch e)) (sym t) (inl refl)) in
        let none : stamps_of (xs ++ installed l.epoch s current) ≡ [] =
        ap (λ z. stamps_of (z ++ installed l.epoch s current)) stuck.1
        ∙ ap (λ o. stamps_of (items_seen l.epoch (option_to_list o))) (none_installed (phase_of current s) stuck.0.0) in
        elim (in_split (stamps_along batches) (stamps_of (xs ++ installed l.epoch s current)) end (subst (λ z. In end z) (sym h.stamps) right)) [
          | inl j ↦ j
          | inr j ↦ absurd (subst (λ z. In end z) none j)
        ]

    -- an item that is proposed or pending has ended, so it was decided, and is the worker's
    pub item_decided : (x : Item) → In x (items_along batches ++ xs) → In x (items_seen l.epoch current.decided) × (x.worker ≡ s)
    item_decided x i =
        let k = map_in (item_seen l.epoch) x (ended_by s current) (subst (λ z. In x z) h.items i) in
        let of_worker : In k.0 (items_by s current.decided) = subst (λ z. In k.0 z) (sym (in_order b l ts s)) (in_prefix (ended_by s current) (option_to_list (installing (phase_of current s))) k.0 k.1) in
        let m = by_in s k.0 current.decided of_worker in
        (subst (λ z. In z (items_seen l.epoch current.decided)) k.2 (in_map (item_seen l.epoch) k.0 current.decided m.0), subst (λ (z : Item). z.worker ≡ s) k.2 m.1)
      where
        by_in : (w : ℕ) (y : CoreItem) (ys : List CoreItem) → In y (items_by w ys) → In y ys × (y.worker ≡ w)
        by_in w y [] i = absurd i
        by_in w y (z ∷ zs) i = elim (eqb_tells z.worker w) [
          | inl e ↦ elim (rw e.0 at i) [ inl k ↦ (inl k, ap (λ (c : CoreItem). c.worker) k ∙ e.1) | inr j ↦ (let m = by_in w y zs j in (inr m.0, m.1)) ]
          | inr e ↦ (let m = by_in w y zs (rw e.0 at i) in (inr m.0, m.1))
        ]

    -- and each that was decided is proposed or pending, or is being installed
    pub decided_item : (y : CoreItem) → In y current.decided → y.worker ≡ s → In (item_seen l.epoch y) (items_along batches ++ (xs ++ installed l.epoch s current))
    decided_item y i own =
        let e : items_along batches ++ (xs ++ installed l.epoch s current) ≡ items_seen l.epoch (items_by s current.decided) =
        sym (append_assoc (items_along batches) xs (installed l.epoch s current)) ∙ ap (λ z. z ++ installed l.epoch s current) h.items
        ∙ sym (map-append (item_seen l.epoch) (ended_by s current) (option_to_list (installing (phase_of current s)))) ∙ ap (items_seen l.epoch) (sym (in_order b l ts s)) in
        subst (λ z. In (item_seen l.epoch y) z) (sym e) (in_map (item_seen l.epoch) y (items_by s current.decided) (in_by s y current.decided i own))
      where
        in_by : (w : ℕ) (y : CoreItem) (ys : List CoreItem) → In y ys → y.worker ≡ w → In y (items_by w ys)
        in_by w y [] i own = absurd i
        in_by w y (z ∷ zs) i own = elim (eqb_tells z.worker w) [
          | inl e ↦ rw e.0 (elim i [ inl k ↦ inl k | inr j ↦ inr (in_by w y zs j own) ])
          | inr e ↦ rw e.0 (elim i [ inl k ↦ absurd (e.1 (sym (ap (λ (c : CoreItem). c.worker) k) ∙ own)) | inr j ↦ in_by w y zs j own ])
        ]
