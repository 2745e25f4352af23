-- The acts that change the worker alone.
use Rattle.std.proofs.Common.{◌≡◌, ℕ, suc, ◌<◌, ◌≤◌, List, [], ◌∷◌, ◌++◌, length, get_or, take, Bool, true, false, not, ◌==◌, nat_lt, ◌&&◌, if◌then◌else◌, Option, Some, None, refl, sym, ap, ◌∙◌, arith, inl, inr, true≢false, length-append, append_assoc}
use Rattle.std.proofs.lemmas.Grind.{common_steps}
use Rattle.std.proofs.lemmas.Bool.Decides.{eqb_tells}
use Rattle.rl_base.specs.Lists.{updated}
use Rattle.rl_base.proofs.UpdateLemmas.{by_updated}
use Rattle.rl_worker.proofs.States.{Answer, Read, Install, Status, Void, Drawn, Decided, Outcome, Wants, Ends, Phase, Rest, Asking, Wanting, Loading, Locking, Validating, Storing, Refusing, State, has, with_read, live, decided, goes, asked}
use Rattle.rl_worker.proofs.Inv.{held, stores, pending, settled_by, settled, Distinct, Version, Alone, Seen, AllAlone, ReadsOk, Knows, Inv}
use Rattle.rl_worker.specs.Items.{CoreItem}
use Rattle.rl_worker.proofs.Keeps.{Keeps, knows_kept, final_kept}
pub use Rattle.rl_worker.proofs.OwnLaw.{Ground, Lawful}

pub decided_lives : (s : Status) → decided s ≡ true → live s ≡ true
decided_lives Void h = h
decided_lives Drawn h = refl
decided_lives Decided h = refl

pub settled_goes : (ws : ℕ → Phase) (w : ℕ) (p : Phase) (h : Option ℕ) (r : ℕ) → stores p r ≡ stores (ws w) r → settled_by (updated ws w p) h r ≡ settled_by ws h r
settled_goes ws w p None r e = refl
settled_goes ws w p (Some v) r e = by_updated (λ x. not (stores x r) ≡ not (stores (ws v) r)) ws w p v (λ i. rw i (ap not e)) (λ n. refl)

pub and_false : (b : Bool) → (b && false) ≡ true → ⊥
and_false true h = true≢false (sym h)
and_false false h = true≢false (sym h)

pub take_whole : (xs ys : List ℕ) → length ys ≤ length xs → xs ≡ take (length xs) ys → xs ≡ ys
take_whole xs ys long e = grind (arith, common_steps)

pub distinct_front : (xs ys : List Install) → Distinct (xs ++ ys) → Distinct xs
distinct_front [] ys h = 0
distinct_front (x ∷ xs) ys h = (front x.rec xs h.0, distinct_front xs ys h.1)
  where
    front : (r : ℕ) (zs : List Install) → has r (zs ++ ys) ≡ false → has r zs ≡ false
    front r [] n = refl
    front r (z ∷ zs) n = elim (eqb_tells r z.rec) [ inl t ↦ absurd (true≢false (rw t.0 at n)) | inr t ↦ rw t.0 (front r zs (rw t.0 at n)) ]

module _ (G : Ground) (L : Lawful G) where
  pub all_alone_snoc : (σ : State) (t : ℕ) (xs : List Read) (x : Read) → AllAlone G σ t xs → Alone G σ t x.rec x.seen → AllAlone G σ t (xs ++ x ∷ [])
  all_alone_snoc σ t [] x h a = (a, 0)
  all_alone_snoc σ t (y ∷ xs) x h a = (h.0, all_alone_snoc σ t xs x h.1 a)

  pub goes_keeps : (σ : State) (w : ℕ) (p : Phase) → ((r : ℕ) → stores p r ≡ stores (σ.workers w) r) → (z : ℕ) → Keeps G σ (goes σ w p) z
  goes_keeps σ w p st z = record {
    next_up = omega arith;
    version = λ r v row h. h;
    stamp_up = λ r. omega arith;
    opens = λ r e s. (sym (settled_goes σ.workers w p (σ.recs r).holder r (st r)) ∙ s, refl);
    mine = λ r v n h. refl;
    entry = λ t a n. refl;
    lives = λ u a l. l;
    writes = λ u a. refl;
  }

  pub goes_inv : (σ : State) (w : ℕ) (p : Phase) → Inv G σ
      → ((r : ℕ) → held (σ.workers w) r ≡ true → held p r ≡ true)
      → ((r : ℕ) → stores p r ≡ stores (σ.workers w) r)
      → ((u r : ℕ) → pending (σ.workers w) u r ≡ true → pending p u r ≡ true)
      → Knows G σ w p → Inv G (goes σ w p)
  goes_inv σ w p inv he st pe kn = record {
    knows = λ v. by_updated (λ x. Knows G (goes σ w p) v x) σ.workers w p v
        (λ e. rw e (knows_kept G σ (goes σ w p) (suc w) (goes_keeps σ w p st (suc w)) w (omega arith) p kn))
        (λ n. knows_kept G σ (goes σ w p) w (goes_keeps σ w p st w) v n (σ.workers v) (inv.knows v));
    owner = λ r v e. by_updated (λ x. held x r ≡ true) σ.workers w p v (λ i. he r (rw i at (inv.owner r v e))) (λ n. inv.owner r v e);
    width_is = inv.width_is;
    based = inv.based;
    fresh = inv.fresh;
    content = λ r s. inv.content r (sym (settled_goes σ.workers w p (σ.recs r).holder r (st r)) ∙ s);
    drawn = λ t r l h. elim (inv.drawn t r l h) [
      | inl a ↦ inl a
      | inr b ↦ inr (by_updated (λ x. pending x t r ≡ true) σ.workers w p (σ.log t).worker (λ i. pe t r (rw i at b)) (λ n. b))
    ];
    past = inv.past;
    final = λ t d. final_kept G σ (goes σ w p) w (goes_keeps σ w p st w) t (omega (arith, (inv.past t (decided_lives (σ.log t).status d)).1)) refl (inv.final t d);
  }

  -- from a phase that holds nothing to another
  pub idle_inv : (σ : State) (w : ℕ) (p : Phase) → Inv G σ
      → ((r : ℕ) → held (σ.workers w) r ≡ false)
      → ((r : ℕ) → stores p r ≡ false) → ((r : ℕ) → stores (σ.workers w) r ≡ false)
      → ((u r : ℕ) → pending (σ.workers w) u r ≡ false)
      → Knows G σ w p → Inv G (goes σ w p)
  idle_inv σ w p inv he st st2 pe kn =
      goes_inv σ w p inv (λ r h. absurd (true≢false (sym h ∙ he r))) (λ r. st r ∙ sym (st2 r)) (λ u r h. absurd (true≢false (sym h ∙ pe u r))) kn

  pub begin_inv : (σ : State) (w q : ℕ) → Inv G σ → σ.workers w ≡ Rest q → Inv G (goes σ w (Asking q []))
  begin_inv σ w q inv e = idle_inv σ w (Asking q []) inv (λ r. rw e refl) (λ r. refl) (λ r. rw e refl) (λ u r. rw e refl) (record { seen = 0 })

  pub give_up_inv : (σ : State) (w q k : ℕ) (reads : List Read) → Inv G σ → σ.workers w ≡ Wanting q reads k → Inv G (goes σ w (Rest q))
  give_up_inv σ w q k reads inv e = idle_inv σ w (Rest q) inv (λ r. rw e refl) (λ r. refl) (λ r. rw e refl) (λ u r. rw e refl) 0

  pub give_up_load_inv : (σ : State) (w q k seen : ℕ) (reads : List Read) (loaded : List ℕ) → Inv G σ → σ.workers w ≡ Loading q reads k seen loaded → Inv G (goes σ w (Rest q))
  give_up_load_inv σ w q k seen reads loaded inv e = idle_inv σ w (Rest q) inv (λ r. rw e refl) (λ r. refl) (λ r. rw e refl) (λ u r. rw e refl) 0

  pub ask_inv : (σ : State) (w q : ℕ) (reads : List Read) → Inv G σ → σ.workers w ≡ Asking q reads → Inv G (goes σ w (asked q reads (G.setting.ask w q reads)))
  ask_inv σ w q reads inv e = go (G.setting.ask w q reads) refl
    where
      kn : ReadsOk G σ w q reads
      kn = let h : Knows G σ w (Asking q reads) = rw e at (inv.knows w) in h

      go : (o : Outcome) → G.setting.ask w q reads ≡ o → Inv G (goes σ w (asked q reads o))
      go (Wants r) a = idle_inv σ w (Wanting q reads r) inv (λ r. rw e refl) (λ r. refl) (λ r. rw e refl) (λ u r. rw e refl) kn
      go (Ends answer writes) a = idle_inv σ w (Locking q reads answer [] writes) inv (λ r. rw e refl) (λ r. refl) (λ r. rw e refl) (λ u r. rw e refl)
          (record { reads_ok = kn; ends = a; holds = λ r h. absurd (true≢false (sym h)) })

  pub first_load_inv : (σ : State) (w q r : ℕ) (reads : List Read) → Inv G σ → σ.workers w ≡ Wanting q reads r → Inv G (goes σ w (Loading q reads r (σ.recs r).stamp []))
  first_load_inv σ w q r reads inv e =
      let kn : Knows G σ w (Wanting q reads r) = rw e at (inv.knows w) in
      idle_inv σ w (Loading q reads r (σ.recs r).stamp []) inv (λ r. rw e refl) (λ r. refl) (λ r. rw e refl) (λ u r. rw e refl)
      (record { reads_ok = kn; open_ok = (omega arith, λ a s. refl); short = omega arith })

  pub take_one_more : (loaded cells : List ℕ) → length loaded < length cells → loaded ≡ take (length loaded) cells → loaded ++ get_or cells (length loaded) 0 ∷ [] ≡ take (length (loaded ++ get_or cells (length loaded) 0 ∷ [])) cells
  take_one_more loaded cells short e = grind (arith, common_steps)

  pub column_load_inv : (σ : State) (w q r seen : ℕ) (reads : List Read) (loaded : List ℕ) → Inv G σ → σ.workers w ≡ Loading q reads r seen loaded
      → length loaded < length (σ.recs r).cells → Inv G (goes σ w (Loading q reads r seen (loaded ++ get_or (σ.recs r).cells (length loaded) 0 ∷ [])))
  column_load_inv σ w q r seen reads loaded inv e short =
      let kn : Knows G σ w (Loading q reads r seen loaded) = rw e at (inv.knows w) in
      idle_inv σ w (Loading q reads r seen (loaded ++ get_or (σ.recs r).cells (length loaded) 0 ∷ [])) inv (λ r. rw e refl) (λ r. refl) (λ r. rw e refl) (λ u r. rw e refl)
      (record {
        reads_ok = kn.reads_ok;
        open_ok = (kn.open_ok.0, λ a s. take_one_more loaded (σ.recs r).cells short (kn.open_ok.1 a s));
        short = simp length-append (omega (arith, inv.width_is r));
      })

  pub seen_with : (σ : State) (b : ℕ) (xs : List Read) (x : Read) → Seen G σ b xs → Version G σ x.rec x.seen x.row → x.seen < b → Seen G σ b (with_read x xs)
  seen_with σ b [] x h v l = (v, l, 0)
  seen_with σ b (y ∷ xs) x h v l = elim (nat_lt x.rec y.rec) as (λ t. Seen G σ b (if t then x ∷ y ∷ xs else y ∷ with_read x xs)) [
    | true ↦ (v, l, h)
    | false ↦ (h.0, h.1, seen_with σ b xs x h.2 v l)
  ]

  pub confirm_inv : (σ : State) (w q r seen : ℕ) (reads : List Read) (loaded : List ℕ) → Inv G σ → σ.workers w ≡ Loading q reads r seen loaded
      → length (σ.recs r).cells ≤ length loaded → (σ.recs r).holder ≡ None → (σ.recs r).stamp ≡ seen
      → Inv G (goes σ w (Asking q (with_read (record { rec = r; seen = seen; row = loaded }) reads)))
  confirm_inv σ w q r seen reads loaded inv e long free same =
      let kn : Knows G σ w (Loading q reads r seen loaded) = rw e at (inv.knows w) in
      let x : Read = record { rec = r; seen = seen; row = loaded } in
      let s : settled σ r ≡ true = rw free refl in
      let all : loaded ≡ (σ.recs r).cells = take_whole loaded (σ.recs r).cells long (kn.open_ok.1 same s) in
      idle_inv σ w (Asking q (with_read x reads)) inv (λ r. rw e refl) (λ r. refl) (λ r. rw e refl) (λ u r. rw e refl)
      (record {
        seen = seen_with σ σ.next reads x kn.reads_ok.seen (rw (all, ← same) (inv.content r s)) (rw (← same) (inv.fresh r));
      })

  pub lock_refused_inv : (σ : State) (w q : ℕ) (reads : List Read) (answer : Answer) (locked todo : List Install) → Inv G σ → σ.workers w ≡ Locking q reads answer locked todo
      → Inv G (goes σ w (Refusing q locked))
  lock_refused_inv σ w q reads answer locked todo inv e =
      let kn : Knows G σ w (Locking q reads answer locked todo) = rw e at (inv.knows w) in
      goes_inv σ w (Refusing q locked) inv (λ r h. rw e at h) (λ r. rw e refl) (λ u r h. absurd (true≢false (sym (rw e at h))))
      (record { holds = kn.holds; distinct = distinct_front locked todo (L.ends_ok w q reads answer (locked ++ todo) kn.ends).0 })

  pub validate_inv : (σ : State) (w q t : ℕ) (done : List Read) (x : Read) (todo : List Read) (answer : Answer) (writes : List Install) → Inv G σ
      → σ.workers w ≡ Validating q t done (x ∷ todo) answer writes → Alone G σ t x.rec x.seen → Inv G (goes σ w (Validating q t (done ++ x ∷ []) todo answer writes))
  validate_inv σ w q t done x todo answer writes inv e al =
      let kn : Knows G σ w (Validating q t done (x ∷ todo) answer writes) = rw e at (inv.knows w) in
      goes_inv σ w (Validating q t (done ++ x ∷ []) todo answer writes) inv (λ r h. rw e at h) (λ r. rw e refl) (λ u r h. rw e at h)
      (let same : (done ++ x ∷ []) ++ todo ≡ done ++ x ∷ todo = append_assoc done (x ∷ []) todo in
      record {
        logged = rw same kn.logged;
        seen = rw same kn.seen;
        alone = all_alone_snoc σ t done x kn.alone al;
        ends = rw same kn.ends;
        holds = kn.holds;
        below = kn.below;
        past = kn.past;
      })

  pub rest_inv : (σ : State) (w : ℕ) (item : CoreItem) (j : ℕ) → Inv G σ → σ.workers w ≡ Storing item j [] → Inv G (goes σ w (Rest (suc item.index)))
  rest_inv σ w item j inv e = goes_inv σ w (Rest (suc item.index)) inv (λ r h. rw e at h) (λ r. rw e refl) (λ u r h. absurd (and_false (u == item.stamp) (rw e at h))) 0

  pub released_inv : (σ : State) (w q : ℕ) → Inv G σ → σ.workers w ≡ Refusing q [] → Inv G (goes σ w (Rest q))
  released_inv σ w q inv e = goes_inv σ w (Rest q) inv (λ r h. rw e at h) (λ r. rw e refl) (λ u r h. rw e at h) 0
