-- The acts that change the log: a draw, a decision, a refusal after the draw.
use Rattle.std.proofs.Common.{◌≡◌, ◌≢◌, ◌⊎◌, ℕ, suc, ◌<◌, ◌≤◌, List, [], ◌∷◌, ◌++◌, true, false, not, ◌==◌, Option, Some, None, refl, sym, ap, ◌∙◌, subst, arith, inl, inr, true≢false, append-nil, eq-eqb, eqb-true}
use Rattle.std.proofs.lemmas.Bool.Decides.{eqb_tells}
use Rattle.rl_base.specs.Lists.{updated}
use Rattle.rl_base.proofs.UpdateLemmas.{updated_same, updated_other, by_updated}
use Rattle.rl_worker.proofs.States.{Answer, Read, Install, Void, Drawn, Decided, Entry, Phase, Locking, Validating, Storing, Refusing, State, has, row_at, live, decided, draws, ends, other}
use Rattle.rl_worker.proofs.Inv.{held, stores, pending, settled_by, settled, Alone, Knows, Final, Inv}
use Rattle.rl_worker.proofs.Basics.{has_dec}
use Rattle.rl_worker.proofs.Keeps.{Keeps, final_kept, seen_kept, all_alone_kept}
use Rattle.rl_worker.proofs.Local.{decided_lives, settled_goes, Lawful}
use Rattle.rl_worker.proofs.Installs.{knows_all, pending_holds, both, stored_none}
use Rattle.rl_worker.proofs.OwnLaw.{Ground}

pub settled_less : (ws : ℕ → Phase) (w : ℕ) (p : Phase) (h : Option ℕ) (r : ℕ) → stores (ws w) r ≡ false → settled_by (updated ws w p) h r ≡ true → settled_by ws h r ≡ true
settled_less ws w p None r e = λ s. refl
settled_less ws w p (Some v) r e = by_updated (λ x. not (stores x r) ≡ true → not (stores (ws v) r) ≡ true) ws w p v (λ i s. rw (i, e) refl) (λ n s. s)

module _ (G : Ground) (L : Lawful G) where
  -- what a read saw is alone below the stamp, once the word is found unchanged
  pub alone_now : (σ : State) (w q t : ℕ) (done : List Read) (x : Read) (todo : List Read) (answer : Answer) (writes : List Install) → Inv G σ
      → σ.workers w ≡ Validating q t done (x ∷ todo) answer writes → other w (σ.recs x.rec).holder ≡ false → (σ.recs x.rec).stamp ≡ x.seen
      → Alone G σ t x.rec x.seen
  alone_now σ w q t done x todo answer writes inv e free same = λ u a b l. elim (has_dec x.rec (σ.log u).writes) [
    | inr no_ ↦ no_
    | inl h ↦ absurd (elim (inv.drawn u x.rec l h) [ inl c ↦ omega arith | inr p ↦ pending_not u b p ])
  ]
    where
      mine : (v : ℕ) → (σ.recs x.rec).holder ≡ Some v → v ≡ w
      mine v h = elim (eqb_tells v w) [ inl i ↦ i.1 | inr n ↦ absurd (true≢false (rw (h, n.0) at free)) ]

      pending_not : (u : ℕ) → u < t → pending (σ.workers (σ.log u).worker) u x.rec ≡ true → ⊥
      pending_not u b p =
          let self : (σ.log u).worker ≡ w = mine (σ.log u).worker (pending_holds G L σ (σ.log u).worker u x.rec (σ.workers (σ.log u).worker) (inv.knows (σ.log u).worker) p) in
          let same_stamp : u ≡ t = eqb-true u t (both (u == t) (has x.rec writes) (rw (self, e) at p)).0 in
          omega arith

  -- ---- draw ----
  module _ (σ : State) (w q : ℕ) (reads : List Read) (answer : Answer) (locked : List Install) (inv : Inv G σ) (e : σ.workers w ≡ Locking q reads answer locked []) where
    abbrev draw_phase : Phase
    draw_phase = Validating q σ.next [] reads answer locked

    abbrev draw_entry : Entry
    draw_entry = record { worker = w; index = q; reads = reads; answer = answer; writes = locked; status = Drawn }

    abbrev draw_state : State
    draw_state = draws σ draw_entry w draw_phase

    draw_knows : Knows G σ w (Locking q reads answer locked [])
    draw_knows = rw e at (inv.knows w)

    draw_old : (t : ℕ) → t < σ.next → draw_state.log t ≡ σ.log t
    draw_old t a = updated_other σ.log σ.next draw_entry t (omega arith)

    draw_settled : (r : ℕ) → settled draw_state r ≡ settled σ r
    draw_settled r = settled_goes σ.workers w draw_phase (σ.recs r).holder r (rw e refl)

    draw_decided : (t : ℕ) → decided (draw_state.log t).status ≡ true → t < σ.next
    draw_decided t = by_updated (λ z. decided z.status ≡ true → t < σ.next) σ.log σ.next draw_entry t (λ i d. absurd (true≢false (sym d))) (λ n d. (inv.past t (decided_lives (σ.log t).status d)).1)

    draw_keeps : Keeps G σ draw_state w
    draw_keeps = record {
      next_up = omega arith;
      version = λ r v row h. elim h [ inl a ↦ inl a | inr b ↦ inr (rw (draw_old v (inv.past v (decided_lives (σ.log v).status b.0)).1) b) ];
      stamp_up = λ r. omega arith;
      opens = λ r c s. (sym (draw_settled r) ∙ s, refl);
      mine = λ r v n h. refl;
      entry = λ t a n. draw_old t a;
      lives = λ u a l. rw (draw_old u a) at l;
      writes = λ u a. ap (λ z. z.writes) (draw_old u a);
    }

    pub draw_inv : Inv G draw_state
    draw_inv =
        let kn = draw_knows in
        record {
          knows = knows_all G L σ draw_state w draw_phase inv draw_keeps (record {
            logged = updated_same σ.log σ.next draw_entry;
            seen = seen_kept G σ draw_state w draw_keeps σ.next σ.next (omega arith) reads kn.reads_ok.seen;
            alone = 0;
            ends = rw append-nil at kn.ends;
            holds = kn.holds;
            below = λ r h. inv.fresh r;
            past = omega arith;
          });
          owner = λ r v h. by_updated (λ z. held z r ≡ true) σ.workers w draw_phase v (λ i. rw (i, e) at (inv.owner r v h)) (λ n. inv.owner r v h);
          width_is = inv.width_is;
          based = omega (arith, inv.based);
          fresh = λ r. omega (arith, inv.fresh r);
          content = λ r s. draw_keeps.version r (σ.recs r).stamp (σ.recs r).cells (inv.content r (sym (draw_settled r) ∙ s));
          drawn = λ t r. by_updated (λ z. live z.status ≡ true → has r z.writes ≡ true → (t ≤ (σ.recs r).stamp) ⊎ (pending (updated σ.workers w draw_phase z.worker) t r ≡ true)) σ.log σ.next draw_entry t
              (λ i l h. inr (rw (updated_same σ.workers w draw_phase, eq-eqb t σ.next i) h))
              (λ n l h. elim (inv.drawn t r l h) [
                | inl a ↦ inl a
                | inr b ↦ inr (by_updated (λ x. pending x t r ≡ true) σ.workers w draw_phase (σ.log t).worker (λ i. absurd (true≢false (sym (rw (i, e) at b)))) (λ m. b))
              ]);
          past = λ t. by_updated (λ z. live z.status ≡ true → (G.setting.base ≤ t) × (t < suc σ.next)) σ.log σ.next draw_entry t
              (λ i l. (omega (arith, inv.based), omega arith)) (λ n l. ((inv.past t l).0, omega (arith, (inv.past t l).1)));
          final = λ t d. let a : t < σ.next = draw_decided t d in
              final_kept G σ draw_state w draw_keeps t (omega arith) (draw_old t a) (inv.final t (rw (draw_old t a) at d));
        }

  -- ---- a decision ----
  module _ (σ : State) (w q t : ℕ) (done : List Read) (answer : Answer) (writes : List Install) (inv : Inv G σ) (e : σ.workers w ≡ Validating q t done [] answer writes) where
    abbrev decide_phase : Phase
    decide_phase = Storing (record { stamp = t; worker = w; index = q; answer = answer; writes = writes }) 0 writes

    abbrev decide_entry : Entry
    decide_entry = record (σ.log t) { status = Decided }

    abbrev decide_state : State
    decide_state = ends σ t Decided w decide_phase

    decide_knows : Knows G σ w (Validating q t done [] answer writes)
    decide_knows = rw e at (inv.knows w)

    decide_logged : σ.log t ≡ record { worker = w; index = q; reads = done; answer = answer; writes = writes; status = Drawn }
    decide_logged = let k = decide_knows.logged in rw append-nil at k

    decide_worker : (σ.log t).worker ≡ w
    decide_worker = ap (λ z. z.worker) decide_logged

    decide_live : live (σ.log t).status ≡ true
    decide_live = ap (λ z. live z.status) decide_logged

    decide_old : (u : ℕ) → u ≢ t → decide_state.log u ≡ σ.log u
    decide_old u n = updated_other σ.log t decide_entry u n

    decide_settled : (r : ℕ) → settled decide_state r ≡ true → settled σ r ≡ true
    decide_settled r = settled_less σ.workers w decide_phase (σ.recs r).holder r (rw e refl)

    decide_keeps : Keeps G σ decide_state w
    decide_keeps = record {
      next_up = omega arith;
      version = λ r v row h. elim h [
        | inl a ↦ inl a
        | inr b ↦ inr (by_updated (λ z. (decided z.status ≡ true) × (row_at r z.writes ≡ Some row)) σ.log t decide_entry v (λ i. (refl, rw i at b.1)) (λ n. b))
      ];
      stamp_up = λ r. omega arith;
      opens = λ r c s. (decide_settled r s, refl);
      mine = λ r v n h. refl;
      entry = λ u a n. decide_old u (λ i. n (rw i decide_worker));
      lives = λ u a. by_updated (λ z. live z.status ≡ true → live (σ.log u).status ≡ true) σ.log t decide_entry u (λ i l. rw i decide_live) (λ n l. l);
      writes = λ u a. by_updated (λ z. z.writes ≡ (σ.log u).writes) σ.log t decide_entry u (λ i. rw i refl) (λ n. refl);
    }

    decide_here : decide_state.log t ≡ record { worker = w; index = q; reads = done; answer = answer; writes = writes; status = Decided }
    decide_here = updated_same σ.log t decide_entry ∙ ap (λ (z : Entry). record z { status = Decided }) decide_logged

    decide_final : Final G decide_state t
    decide_final =
        let kn = decide_knows in
        record {
          seen = rw decide_here (seen_kept G σ decide_state w decide_keeps t t (omega arith) done (rw append-nil at kn.seen));
          alone = rw decide_here (all_alone_kept G σ decide_state w decide_keeps t (omega (arith, kn.past)) done kn.alone);
          ends = rw decide_here (rw append-nil at kn.ends);
        }

    decide_pending : (v u r : ℕ) → pending (σ.workers v) u r ≡ true → pending (updated σ.workers w decide_phase v) u r ≡ true
    decide_pending v u r b = by_updated (λ x. pending x u r ≡ true) σ.workers w decide_phase v (λ i. rw (i, e) at b) (λ n. b)

    decide_drawn : (u v r : ℕ) → (u ≤ (σ.recs r).stamp) ⊎ (pending (σ.workers v) u r ≡ true) → (u ≤ (σ.recs r).stamp) ⊎ (pending (updated σ.workers w decide_phase v) u r ≡ true)
    decide_drawn u v r d = elim d [ inl a ↦ inl a | inr b ↦ inr (decide_pending v u r b) ]

    pub decide_inv : Inv G decide_state
    decide_inv =
        let kn = decide_knows in
        let lawful = L.ends_ok w q (done ++ []) answer writes kn.ends in
        record {
          knows = knows_all G L σ decide_state w decide_phase inv decide_keeps (record {
            worker = ap (λ z. z.worker) decide_here;
            status = ap (λ z. decided z.status) decide_here;
            rows_are = λ r h. ap (λ z. row_at r z.writes) (sym decide_here);
            holds = kn.holds;
            below = kn.below;
            past = kn.past;
            distinct = lawful.0;
            widths = lawful.1;
            stored = stored_none decide_state writes G;
          });
          owner = λ r v h. by_updated (λ z. held z r ≡ true) σ.workers w decide_phase v (λ i. rw (i, e) at (inv.owner r v h)) (λ n. inv.owner r v h);
          width_is = inv.width_is;
          based = inv.based;
          fresh = inv.fresh;
          content = λ r s. decide_keeps.version r (σ.recs r).stamp (σ.recs r).cells (inv.content r (decide_settled r s));
          drawn = λ u r. by_updated (λ z. live z.status ≡ true → has r z.writes ≡ true → (u ≤ (σ.recs r).stamp) ⊎ (pending (updated σ.workers w decide_phase z.worker) u r ≡ true)) σ.log t decide_entry u
              (λ i l h. decide_drawn u (σ.log t).worker r (subst (λ z. (u ≤ (σ.recs r).stamp) ⊎ (pending (σ.workers (σ.log z).worker) u r ≡ true)) i (inv.drawn u r (rw i decide_live) (rw i h))))
              (λ n l h. decide_drawn u (σ.log u).worker r (inv.drawn u r l h));
          past = λ u. by_updated (λ z. live z.status ≡ true → (G.setting.base ≤ u) × (u < σ.next)) σ.log t decide_entry u (λ i l. inv.past u (rw i decide_live)) (λ n l. inv.past u l);
          final = λ u d. elim (eqb_tells u t) [
            | inl i ↦ subst (λ z. Final G decide_state z) (sym i.1) decide_final
            | inr n ↦ (let d2 : decided (σ.log u).status ≡ true = rw (decide_old u n.1) at d in
                final_kept G σ decide_state w decide_keeps u (omega (arith, (inv.past u (decided_lives (σ.log u).status d2)).1)) (decide_old u n.1) (inv.final u d2))
          ];
        }

  -- ---- a refusal after the draw ----
  module _ (σ : State) (w q t : ℕ) (done todo : List Read) (answer : Answer) (writes : List Install) (inv : Inv G σ) (e : σ.workers w ≡ Validating q t done todo answer writes) where
    abbrev void_phase : Phase
    void_phase = Refusing q writes

    abbrev void_entry : Entry
    void_entry = record (σ.log t) { status = Void }

    abbrev void_state : State
    void_state = ends σ t Void w void_phase

    void_knows : Knows G σ w (Validating q t done todo answer writes)
    void_knows = rw e at (inv.knows w)

    void_worker : (σ.log t).worker ≡ w
    void_worker = ap (λ z. z.worker) void_knows.logged

    void_not : decided (σ.log t).status ≡ false
    void_not = ap (λ z. decided z.status) void_knows.logged

    void_live : live (σ.log t).status ≡ true
    void_live = ap (λ z. live z.status) void_knows.logged

    void_old : (u : ℕ) → u ≢ t → void_state.log u ≡ σ.log u
    void_old u n = updated_other σ.log t void_entry u n

    void_settled : (r : ℕ) → settled void_state r ≡ settled σ r
    void_settled r = settled_goes σ.workers w void_phase (σ.recs r).holder r (rw e refl)

    void_keeps : Keeps G σ void_state w
    void_keeps = record {
      next_up = omega arith;
      version = λ r v row h. elim h [
        | inl a ↦ inl a
        | inr b ↦ inr (by_updated (λ z. (decided z.status ≡ true) × (row_at r z.writes ≡ Some row)) σ.log t void_entry v (λ i. absurd (true≢false (sym (rw i at b.0) ∙ void_not))) (λ n. b))
      ];
      stamp_up = λ r. omega arith;
      opens = λ r c s. (sym (void_settled r) ∙ s, refl);
      mine = λ r v n h. refl;
      entry = λ u a n. void_old u (λ i. n (rw i void_worker));
      lives = λ u a. by_updated (λ z. live z.status ≡ true → live (σ.log u).status ≡ true) σ.log t void_entry u (λ i l. absurd (true≢false (sym l))) (λ n l. l);
      writes = λ u a. by_updated (λ z. z.writes ≡ (σ.log u).writes) σ.log t void_entry u (λ i. rw i refl) (λ n. refl);
    }

    void_drawn : (u v r : ℕ) → u ≢ t → (u ≤ (σ.recs r).stamp) ⊎ (pending (σ.workers v) u r ≡ true) → (u ≤ (σ.recs r).stamp) ⊎ (pending (updated σ.workers w void_phase v) u r ≡ true)
    void_drawn u v r n d = elim d [
      | inl a ↦ inl a
      | inr b ↦ inr (by_updated (λ x. pending x u r ≡ true) σ.workers w void_phase v (λ i. absurd (n (eqb-true u t (both (u == t) (has r writes) (rw (i, e) at b)).0))) (λ m. b))
    ]

    pub void_inv : Inv G void_state
    void_inv =
        let kn = void_knows in
        record {
          knows = knows_all G L σ void_state w void_phase inv void_keeps (record { holds = kn.holds; distinct = (L.ends_ok w q (done ++ todo) answer writes kn.ends).0 });
          owner = λ r v h. by_updated (λ z. held z r ≡ true) σ.workers w void_phase v (λ i. rw (i, e) at (inv.owner r v h)) (λ n. inv.owner r v h);
          width_is = inv.width_is;
          based = inv.based;
          fresh = inv.fresh;
          content = λ r s. void_keeps.version r (σ.recs r).stamp (σ.recs r).cells (inv.content r (sym (void_settled r) ∙ s));
          drawn = λ u r. by_updated (λ z. live z.status ≡ true → has r z.writes ≡ true → (u ≤ (σ.recs r).stamp) ⊎ (pending (updated σ.workers w void_phase z.worker) u r ≡ true)) σ.log t void_entry u
              (λ i l h. absurd (true≢false (sym l)))
              (λ n l h. void_drawn u (σ.log u).worker r n (inv.drawn u r l h));
          past = λ u. by_updated (λ z. live z.status ≡ true → (G.setting.base ≤ u) × (u < σ.next)) σ.log t void_entry u (λ i l. inv.past u (rw i void_live)) (λ n l. inv.past u l);
          final = λ u. by_updated (λ z. decided z.status ≡ true → Final G void_state u) σ.log t void_entry u
              (λ i d. absurd (true≢false (sym d)))
              (λ n d. final_kept G σ void_state w void_keeps u (omega (arith, (inv.past u (decided_lives (σ.log u).status d)).1)) (void_old u n) (inv.final u d));
        }
