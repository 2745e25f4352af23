-- The machine over lists makes the acts of the machine over functions.
use Rattle.std.proofs.Common.{◌≡◌, ◌⊎◌, ℕ, zero, suc, ◌+◌, ◌<◌, ◌≤◌, List, [], ◌∷◌, ◌++◌, length, get_or, set, true, false, ◌==◌, nat_lt, Option, Some, None, refl, sym, ap, ◌∙◌, subst, arith, inl, inr, true≢false, eqb-true, get_or-set_other, get_or-set_same, length-set, eq-eqb, is_some}
use Rattle.std.proofs.lemmas.List.{get_or_past}
use Rattle.std.proofs.lemmas.Bool.{cases_lt}
use Rattle.rl_base.specs.Lists.{updated}
use Rattle.rl_base.proofs.UpdateLemmas.{updated_same, updated_other, by_updated}
use Rattle.rl_worker.proofs.Installs.{none_some}
use Rattle.rl_worker.proofs.Inv.{held, Distinct}
use Rattle.std.proofs.lemmas.Bool.Decides.{eqb_tells}
use mathlib.Core.Path.{fun_ext}
use Rattle.rl_worker.proofs.States.{Answer, Read, Install, Rec, Void, Drawn, Decided, Entry, Ends, Phase, Rest, Asking, Wanting, Loading, Locking, Validating, Storing, Refusing, State, has, with_read, goes, sets, asked, other}
use Rattle.rl_worker.specs.Items.{insert_by_stamp}
use Rattle.rl_worker.specs.Laws.{IsTrueCause, AllTrue}
use Rattle.rl_worker.specs.Acts.{Cause, Locked, Changed, Effect, Quiet, Drew, Won, Ended, Lost, quiet, lost, act_result, Core, no_rec}
use Rattle.rl_worker.specs.Attempts.{next_after}
use Rattle.rl_worker.proofs.Parts.{decided_after, refusals_after, parts, micro_at}
use Rattle.rl_worker.proofs.Basics.{by_test, test_lt, test_ge}
use Rattle.rl_worker.proofs.Inv.{Inv, Knows}
use Rattle.rl_worker.proofs.Local.{Lawful, begin_inv, give_up_inv, give_up_load_inv, ask_inv, first_load_inv, column_load_inv, confirm_inv, lock_refused_inv, validate_inv, rest_inv, released_inv}
use Rattle.rl_worker.proofs.Installs.{lock_inv, store_inv, free_inv, close_inv}
use Rattle.rl_worker.proofs.Stamps.{alone_now, draw_inv, decide_inv, void_inv}
use Rattle.rl_worker.proofs.Serial.{item, items_from, items_decided, items_drawn, items_voided}
use Rattle.rl_worker.proofs.OwnLaw.{Ground}

abbrev pub lift : Core → (ℕ → Entry) → State
lift c log = record { recs = λ r. get_or c.recs r no_rec; workers = λ w. get_or c.workers w (Rest 0); log = log; next = c.next }

pub set_reads : {A : Type 0} (xs : List A) (k : ℕ) (x d : A) → k < length xs → (λ r. get_or (set xs k x) r d) ≡ updated (λ r. get_or xs r d) k x
set_reads xs k x d h = fun_ext (λ r. elim (eqb_tells r k) [
  | inl i ↦ rw (i.1, get_or-set_same xs k x d h, updated_same (λ r. get_or xs r d) k x) refl
  | inr n ↦ rw (get_or-set_other xs k r x d n.1, updated_other (λ r. get_or xs r d) k x r n.1) refl
])

pub set_back : {A : Type 0} (xs : List A) (k : ℕ) (d : A) → set xs k (get_or xs k d) ≡ xs
set_back [] k d = refl
set_back (x ∷ xs) zero d = refl
set_back (x ∷ xs) (suc k) d = ap (λ z. x ∷ z) (set_back xs k d)

pub same_state : (a b : State) → a.recs ≡ b.recs → a.workers ≡ b.workers → a.log ≡ b.log → a.next ≡ b.next → a ≡ b
same_state a b p q r s = λ i. record { recs = p i; workers = q i; log = r i; next = s i }

pub updated_back : {A : Type 0} (f : ℕ → A) (k : ℕ) → updated f k (f k) ≡ f
updated_back f k = fun_ext (λ r. by_updated (λ z. z ≡ f r) f k (f k) r (λ i. rw i refl) (λ n. refl))

pub held_in : (xs : List Rec) (k w : ℕ) → (get_or xs k no_rec).holder ≡ Some w → k < length xs
held_in xs k w h = elim (cases_lt k (length xs)) [ inl a ↦ a | inr b ↦ absurd (none_some w (rw (get_or_past xs k no_rec b) at h)) ]

pub distinct_middle : (xs : List Install) (y : Install) (ys : List Install) → Distinct (xs ++ y ∷ ys) → has y.rec xs ≡ false
distinct_middle [] y ys h = refl
distinct_middle (x ∷ xs) y ys h = elim (eqb_tells y.rec x.rec) [
  | inl i ↦ absurd (true≢false (sym (has_middle x.rec xs y ys (sym i.1)) ∙ h.0))
  | inr n ↦ rw n.0 (distinct_middle xs y ys h.1)
]
  where
    has_middle : (r : ℕ) (zs : List Install) (z : Install) (us : List Install) → r ≡ z.rec → has r (zs ++ z ∷ us) ≡ true
    has_middle r [] z us e = rw (eq-eqb r z.rec e) refl
    has_middle r (u ∷ zs) z us e = elim (eqb_tells r u.rec) [ inl t ↦ rw t.0 refl | inr t ↦ rw t.0 (has_middle r zs z us e) ]

pub has_middle_at : (zs : List Install) (z : Install) (us : List Install) → has z.rec (zs ++ z ∷ us) ≡ true
has_middle_at [] z us = rw (eq-eqb z.rec z.rec refl) refl
has_middle_at (u ∷ zs) z us = elim (eqb_tells z.rec u.rec) [ inl t ↦ rw t.0 refl | inr t ↦ rw t.0 (has_middle_at zs z us) ]

module _ (G : Ground) where
  pub record Good (c : Core) : Type 0 where
    pub log : ℕ → Entry
    pub count : ℕ
    pub count_is : G.setting.base + count ≡ c.next
    pub inv : Inv G (lift c log)
    pub items : c.decided ≡ items_from log G.setting.base count
    pub inside : (w q : ℕ) (reads : List Read) (answer : Answer) (writes : List Install) → G.setting.ask w q reads ≡ Ends answer writes → (r : ℕ) → has r writes ≡ true → r < length c.recs
    pub causes : AllTrue c.refusals

  module _ (L : Lawful G) (c : Core) (g : Good c) (w : ℕ) (hw : w < length c.workers) where
    abbrev σ : State
    σ = lift c g.log

    recs_path : (k : ℕ) (x : Rec) → (k < length c.recs) ⊎ (x ≡ get_or c.recs k no_rec) → (λ r. get_or (set c.recs k x) r no_rec) ≡ updated σ.recs k x
    recs_path k x h = elim h [
      | inl a ↦ set_reads c.recs k x no_rec a
      | inr e ↦ rw (e, set_back c.recs k no_rec, updated_back σ.recs k) refl
    ]

    good_of : (k : ℕ) (x : Rec) (p : Phase) (ev : Effect) → (k < length c.recs) ⊎ (x ≡ get_or c.recs k no_rec) → (log : ℕ → Entry) (count : ℕ)
        → Inv G (record { recs = updated σ.recs k x; workers = updated σ.workers w p; log = log; next = next_after c.next ev })
        → G.setting.base + count ≡ next_after c.next ev → decided_after c.decided ev ≡ items_from log G.setting.base count → AllTrue (refusals_after c.refusals ev)
        → Good (parts c w k (record { phase = p; rec = x; effect = ev }))
    good_of k x p ev h log count i n d t = record {
      log = log;
      count = count;
      count_is = n;
      inv = subst (Inv G) (sym (same_state (lift (parts c w k (record { phase = p; rec = x; effect = ev })) log) (record { recs = updated σ.recs k x; workers = updated σ.workers w p; log = log; next = next_after c.next ev })
          (recs_path k x h) (set_reads c.workers w p (Rest 0) hw) refl refl)) i;
      items = d;
      inside = λ v q given answer writes e r m. rw length-set (g.inside v q given answer writes e r m);
      causes = t;
    }

    -- the acts that leave the records
    local_good : (k : ℕ) (p : Phase) → Inv G (goes σ w p) → Good (parts c w k (quiet (get_or c.recs k no_rec) p))
    local_good k p i = good_of k (get_or c.recs k no_rec) p Quiet (inr refl) g.log g.count (rw (updated_back σ.recs k) i) g.count_is g.items g.causes

    lost_good : (q k : ℕ) (p : Phase) (cause : Cause) → IsTrueCause w cause → Inv G (goes σ w p) → Good (parts c w k (lost (get_or c.recs k no_rec) p w q k cause))
    lost_good q k p cause t i = good_of k (get_or c.recs k no_rec) p (Lost (record { worker = w; index = q; rec = k; cause = cause })) (inr refl) g.log g.count (rw (updated_back σ.recs k) i) g.count_is g.items (t, g.causes)

    sets_good : (k : ℕ) (x : Rec) (p : Phase) → k < length c.recs → Inv G (sets σ k x w p) → Good (parts c w k (quiet x p))
    sets_good k x p h i = good_of k x p Quiet (inl h) g.log g.count i g.count_is g.items g.causes

    -- the holder of a record that w does not hold is another worker
    other_holder : (k : ℕ) → is_some (get_or c.recs k no_rec).holder ≡ true → held (σ.workers w) k ≡ false → other w (get_or c.recs k no_rec).holder ≡ true
    other_holder k h n = go (get_or c.recs k no_rec).holder refl h
      where
        go : (o : Option ℕ) → (get_or c.recs k no_rec).holder ≡ o → is_some o ≡ true → other w o ≡ true
        go None e some = absurd (true≢false (sym some))
        go (Some v) e some = elim (eqb_tells v w) [
          | inl i ↦ absurd (true≢false (sym (g.inv.owner k w (e ∙ ap Some i.1)) ∙ n))
          | inr m ↦ rw m.0 refl
        ]

    is_free : (o : Option ℕ) → is_some o ≡ false → o ≡ None
    is_free None e = refl
    is_free (Some v) e = absurd (true≢false e)

    first_load_good : (q : ℕ) (reads : List Read) (r : ℕ) → σ.workers w ≡ Wanting q reads r → Good (micro_at G.setting c w (Wanting q reads r))
    first_load_good q reads r e = by_test (λ z. Good (parts c w r z)) (is_some (σ.recs r).holder) _ _
        (λ h. lost_good q r (Rest q) (Locked (σ.recs r).holder (σ.recs r).stamp) (other_holder r h (rw e refl)) (give_up_inv G L σ w q r reads g.inv e))
        (λ h. local_good r (Loading q reads r (σ.recs r).stamp []) (first_load_inv G L σ w q r reads g.inv e))

    load_good : (q : ℕ) (reads : List Read) (r seen : ℕ) (loaded : List ℕ) → σ.workers w ≡ Loading q reads r seen loaded → Good (micro_at G.setting c w (Loading q reads r seen loaded))
    load_good q reads r seen loaded e = by_test (λ z. Good (parts c w r z)) (nat_lt (length loaded) (length (σ.recs r).cells)) _ _
        (λ t. local_good r (Loading q reads r seen (loaded ++ get_or (σ.recs r).cells (length loaded) 0 ∷ [])) (column_load_inv G L σ w q r seen reads loaded g.inv e (test_lt (length loaded) (length (σ.recs r).cells) t)))
        (λ t. by_test (λ z. Good (parts c w r z)) (is_some (σ.recs r).holder) _ _
        (λ h. lost_good q r (Rest q) (Locked (σ.recs r).holder (σ.recs r).stamp) (other_holder r h (rw e refl)) (give_up_load_inv G L σ w q r seen reads loaded g.inv e))
        (λ h. let free = is_free (σ.recs r).holder h in by_test (λ z. Good (parts c w r z)) ((σ.recs r).stamp == seen) _ _
        (λ s. local_good r (Asking q (with_read (record { rec = r; seen = seen; row = loaded }) reads))
        (confirm_inv G L σ w q r seen reads loaded g.inv e (test_ge (length loaded) (length (σ.recs r).cells) t) free (eqb-true (σ.recs r).stamp seen s)))
        (λ s. lost_good q r (Rest q) (Changed (σ.recs r).holder seen (σ.recs r).stamp) (ap (other w) free, λ i. true≢false (sym (eq-eqb (σ.recs r).stamp seen i) ∙ s))
        (give_up_load_inv G L σ w q r seen reads loaded g.inv e))))

    lock_good : (q : ℕ) (reads : List Read) (answer : Answer) (locked : List Install) (y : Install) (todo : List Install) → σ.workers w ≡ Locking q reads answer locked (y ∷ todo)
        → Good (micro_at G.setting c w (Locking q reads answer locked (y ∷ todo)))
    lock_good q reads answer locked y todo e =
        let kn : Knows G σ w (Locking q reads answer locked (y ∷ todo)) = rw e at (g.inv.knows w) in
        by_test (λ z. Good (parts c w y.rec z)) (is_some (σ.recs y.rec).holder) _ _
        (λ h. lost_good q y.rec (Refusing q locked) (Locked (σ.recs y.rec).holder (σ.recs y.rec).stamp)
        (other_holder y.rec h (rw e (distinct_middle locked y todo (L.ends_ok w q reads answer (locked ++ y ∷ todo) kn.ends).0)))
        (lock_refused_inv G L σ w q reads answer locked (y ∷ todo) g.inv e))
        (λ h. sets_good y.rec (record { stamp = (σ.recs y.rec).stamp; holder = Some w; cells = (σ.recs y.rec).cells }) (Locking q reads answer (locked ++ y ∷ []) todo)
        (g.inside w q reads answer (locked ++ y ∷ todo) kn.ends y.rec (has_middle_at locked y todo)) (lock_inv G L σ w q reads answer locked y todo g.inv e (is_free (σ.recs y.rec).holder h)))

    draw_good : (q : ℕ) (reads : List Read) (answer : Answer) (locked : List Install) → σ.workers w ≡ Locking q reads answer locked []
        → Good (parts c w 0 (record { phase = Validating q c.next [] reads answer locked; rec = get_or c.recs 0 no_rec; effect = Drew }))
    draw_good q reads answer locked e =
        let x : Entry = record { worker = w; index = q; reads = reads; answer = answer; writes = locked; status = Drawn } in
        good_of 0 (get_or c.recs 0 no_rec) (Validating q c.next [] reads answer locked) Drew (inr refl)
        (updated g.log c.next x) (suc g.count) (rw (updated_back σ.recs 0) (draw_inv G L σ w q reads answer locked g.inv e)) (omega (arith, g.count_is))
        (g.items ∙ sym (items_drawn g.log c.next x g.count G.setting.base refl g.count_is)) g.causes

    win_good : (q t : ℕ) (done : List Read) (answer : Answer) (writes : List Install) → σ.workers w ≡ Validating q t done [] answer writes
        → Good (parts c w 0 (act_result G.setting w c.next (Validating q t done [] answer writes) (get_or c.recs 0 no_rec)))
    win_good q t done answer writes e =
        let kn : Knows G σ w (Validating q t done [] answer writes) = rw e at (g.inv.knows w) in
        let past : (G.setting.base ≤ t) × (t < c.next) = g.inv.past t (rw kn.logged refl) in
        let is : item t (g.log t) ≡ record { stamp = t; worker = w; index = q; answer = answer; writes = writes } = ap (λ (z : Entry). item t z) kn.logged in
        good_of 0 (get_or c.recs 0 no_rec) (Storing (record { stamp = t; worker = w; index = q; answer = answer; writes = writes }) 0 writes) (Won (record { stamp = t; worker = w; index = q; answer = answer; writes = writes })) (inr refl)
        (updated g.log t (record (g.log t) { status = Decided })) g.count (rw (updated_back σ.recs 0) (decide_inv G L σ w q t done answer writes g.inv e)) g.count_is
        (ap (insert_by_stamp (record { stamp = t; worker = w; index = q; answer = answer; writes = writes })) g.items
        ∙ ap (λ z. insert_by_stamp z (items_from g.log G.setting.base g.count)) (sym is)
        ∙ sym (items_decided g.log t g.count G.setting.base (rw kn.logged refl) past.0 (omega (arith, g.count_is, past.1)))) g.causes

    lose_good : (q t : ℕ) (done : List Read) (y : Read) (todo : List Read) (answer : Answer) (writes : List Install) (cause : Cause) → IsTrueCause w cause
        → σ.workers w ≡ Validating q t done (y ∷ todo) answer writes
        → Good (parts c w y.rec (lost (get_or c.recs y.rec no_rec) (Refusing q writes) w q y.rec cause))
    lose_good q t done y todo answer writes cause true_ e =
        let kn : Knows G σ w (Validating q t done (y ∷ todo) answer writes) = rw e at (g.inv.knows w) in
        good_of y.rec (get_or c.recs y.rec no_rec) (Refusing q writes) (Lost (record { worker = w; index = q; rec = y.rec; cause = cause })) (inr refl)
        (updated g.log t (record (g.log t) { status = Void })) g.count (rw (updated_back σ.recs y.rec) (void_inv G L σ w q t done (y ∷ todo) answer writes g.inv e)) g.count_is
        (g.items ∙ sym (items_voided g.log t g.count G.setting.base (rw kn.logged refl))) (true_, g.causes)

    pub micro_good : (p : Phase) → σ.workers w ≡ p → Good (micro_at G.setting c w p)
    micro_good (Rest q) e = local_good 0 (Asking q []) (begin_inv G L σ w q g.inv e)
    micro_good (Asking q reads) e = local_good 0 (asked q reads (G.setting.ask w q reads)) (ask_inv G L σ w q reads g.inv e)
    micro_good (Wanting q reads r) e = first_load_good q reads r e
    micro_good (Loading q reads r seen loaded) e = load_good q reads r seen loaded e
    micro_good (Locking q reads answer locked (y ∷ todo)) e = lock_good q reads answer locked y todo e
    micro_good (Locking q reads answer locked []) e = draw_good q reads answer locked e
    micro_good (Validating q t done (y ∷ todo) answer writes) e = by_test (λ z. Good (parts c w y.rec z)) (other w (σ.recs y.rec).holder) _ _
        (λ f. lose_good q t done y todo answer writes (Locked (σ.recs y.rec).holder (σ.recs y.rec).stamp) f e)
        (λ f. by_test (λ z. Good (parts c w y.rec z)) ((σ.recs y.rec).stamp == y.seen) _ _
        (λ s. local_good y.rec (Validating q t (done ++ y ∷ []) todo answer writes)
        (validate_inv G L σ w q t done y todo answer writes g.inv e (alone_now G L σ w q t done y todo answer writes g.inv e f (eqb-true (σ.recs y.rec).stamp y.seen s))))
        (λ s. lose_good q t done y todo answer writes (Changed (σ.recs y.rec).holder y.seen (σ.recs y.rec).stamp) (f, λ i. true≢false (sym (eq-eqb (σ.recs y.rec).stamp y.seen i) ∙ s)) e))
    micro_good (Validating q t done [] answer writes) e = win_good q t done answer writes e
    micro_good (Storing item j (y ∷ todo)) e =
        let kn : Knows G σ w (Storing item j (y ∷ todo)) = rw e at (g.inv.knows w) in
        let here : y.rec < length c.recs = held_in c.recs y.rec w (kn.holds y.rec (rw (eq-eqb y.rec y.rec refl) refl)) in
        by_test (λ z. Good (parts c w y.rec z)) (nat_lt j (length y.row)) _ _
        (λ s. sets_good y.rec (record { stamp = (σ.recs y.rec).stamp; holder = (σ.recs y.rec).holder; cells = set (σ.recs y.rec).cells j (get_or y.row j 0) }) (Storing item (suc j) (y ∷ todo)) here
        (store_inv G L σ w item j y todo g.inv e (test_lt j (length y.row) s)))
        (λ s. sets_good y.rec (record { stamp = item.stamp; holder = None; cells = (σ.recs y.rec).cells }) (Storing item 0 todo) here
        (close_inv G L σ w item j y todo g.inv e (test_ge j (length y.row) s)))
    micro_good (Storing item j []) e =
        good_of 0 (get_or c.recs 0 no_rec) (Rest (suc item.index)) (Ended item) (inr refl) g.log g.count (rw (updated_back σ.recs 0) (rest_inv G L σ w item j g.inv e)) g.count_is g.items g.causes
    micro_good (Refusing q (y ∷ todo)) e =
        let kn : Knows G σ w (Refusing q (y ∷ todo)) = rw e at (g.inv.knows w) in
        let here : y.rec < length c.recs = held_in c.recs y.rec w (kn.holds y.rec (rw (eq-eqb y.rec y.rec refl) refl)) in
        sets_good y.rec (record { stamp = (σ.recs y.rec).stamp; holder = None; cells = (σ.recs y.rec).cells }) (Refusing q todo) here (free_inv G L σ w q y todo g.inv e)
    micro_good (Refusing q []) e = local_good 0 (Rest q) (released_inv G L σ w q g.inv e)
