-- The acts that change a record.
use Rattle.std.proofs.Common.{◌≡◌, ◌≢◌, ◌⊎◌, ℕ, suc, ◌<◌, ◌≤◌, List, [], ◌∷◌, ◌++◌, length, get_or, take, set, Bool, true, false, ◌==◌, ◌&&◌, Option, Some, None, refl, sym, ap, ◌∙◌, arith, inl, inr, true≢false, append_assoc, eq-eqb, ne_eqb, eqb-true, length-set}
use Rattle.std.proofs.lemmas.Grind.{common_steps}
use Rattle.std.proofs.Math.Seq.{take-suc, take-suc-set}
use Rattle.std.proofs.lemmas.Bool.Decides.{eqb_tells}
use Rattle.rl_base.specs.Lists.{updated}
use Rattle.rl_base.proofs.UpdateLemmas.{updated_same, updated_other, by_updated}
use Rattle.rl_worker.proofs.States.{Answer, Read, Install, Rec, Phase, Rest, Asking, Wanting, Loading, Locking, Validating, Storing, Refusing, State, has, row_at, sets}
use Rattle.rl_worker.specs.Items.{CoreItem}
use Rattle.rl_worker.proofs.Inv.{held, pending, settled_by, settled, Version, Stored, Knows, Inv}
use Rattle.rl_worker.proofs.Basics.{has_append, has_append_old, has_append_new}
use Rattle.rl_worker.proofs.Keeps.{Keeps, knows_kept, final_kept, reads_kept}
use Rattle.rl_worker.proofs.Local.{decided_lives, settled_goes, Lawful}
use Rattle.rl_worker.proofs.OwnLaw.{Ground}

pub both : (a b : Bool) → (a && b) ≡ true → (a ≡ true) × (b ≡ true)
both true b h = (refl, h)
both false b h = absurd (true≢false (sym h))

pub some_same : (v w : ℕ) → ◌≡◌ {A = Option ℕ} (Some v) (Some w) → v ≡ w
some_same v w e = cc

pub none_some : (w : ℕ) → ◌≡◌ {A = Option ℕ} None (Some w) → ⊥
none_some w e = cc

pub store_more : (cells row : List ℕ) (j : ℕ) → j < length row → length cells ≡ length row → take j cells ≡ take j row → take (suc j) (set cells j (get_or row j 0)) ≡ take (suc j) row
store_more cells row j less same e = take-suc-set cells j (get_or row j 0) (omega arith) ∙ ap (λ z. z ++ get_or row j 0 ∷ []) e ∙ sym (take-suc row j 0 less)

pub stored_whole : (cells row : List ℕ) (j : ℕ) → length row ≤ j → length cells ≡ length row → take j cells ≡ take j row → cells ≡ row
stored_whole cells row j long same e = grind (arith, common_steps)

pub stored_none : (σ : State) (xs : List Install) (G : Ground) → Stored G σ 0 xs
stored_none σ [] G = 0
stored_none σ (x ∷ xs) G = (omega arith, refl)

module _ (G : Ground) (L : Lawful G) where
  pub knows_all : (σ τ : State) (w : ℕ) (p : Phase) → Inv G σ → Keeps G σ τ w → Knows G τ w p → (v : ℕ) → Knows G τ v (updated σ.workers w p v)
  knows_all σ τ w p inv k kn v = by_updated (λ x. Knows G τ v x) σ.workers w p v (λ e. rw e kn) (λ n. knows_kept G σ τ w k v n (σ.workers v) (inv.knows v))

  -- who may still close r holds it
  pub pending_holds : (σ : State) (v u r : ℕ) → (p : Phase) → Knows G σ v p → pending p u r ≡ true → (σ.recs r).holder ≡ Some v
  pending_holds σ v u r (Rest q) k h = absurd (true≢false (sym h))
  pending_holds σ v u r (Asking q reads) k h = absurd (true≢false (sym h))
  pending_holds σ v u r (Wanting q reads x) k h = absurd (true≢false (sym h))
  pending_holds σ v u r (Loading q reads x seen loaded) k h = absurd (true≢false (sym h))
  pending_holds σ v u r (Locking q reads answer locked todo) k h = absurd (true≢false (sym h))
  pending_holds σ v u r (Validating q t done todo answer writes) k h = k.holds r (both (u == t) (has r writes) h).1
  pending_holds σ v u r (Storing item j todo) k h = k.holds r (both (u == item.stamp) (has r todo) h).1
  pending_holds σ v u r (Refusing q todo) k h = absurd (true≢false (sym h))

  -- ---- lock ----
  module _ (σ : State) (w q : ℕ) (reads : List Read) (answer : Answer) (locked : List Install) (y : Install) (todo : List Install) (inv : Inv G σ)
      (e : σ.workers w ≡ Locking q reads answer locked (y ∷ todo)) (free : (σ.recs y.rec).holder ≡ None) where
    abbrev lock_phase : Phase
    lock_phase = Locking q reads answer (locked ++ y ∷ []) todo

    abbrev lock_rec : Rec
    lock_rec = record { stamp = (σ.recs y.rec).stamp; holder = Some w; cells = (σ.recs y.rec).cells }

    abbrev lock_state : State
    lock_state = sets σ y.rec lock_rec w lock_phase

    lock_stamp : (r : ℕ) → (lock_state.recs r).stamp ≡ (σ.recs r).stamp
    lock_stamp r = by_updated (λ z. z.stamp ≡ (σ.recs r).stamp) σ.recs y.rec lock_rec r (λ i. rw i refl) (λ n. refl)

    lock_cells : (r : ℕ) → (lock_state.recs r).cells ≡ (σ.recs r).cells
    lock_cells r = by_updated (λ z. z.cells ≡ (σ.recs r).cells) σ.recs y.rec lock_rec r (λ i. rw i refl) (λ n. refl)

    lock_settled : (r : ℕ) → settled lock_state r ≡ true → settled σ r ≡ true
    lock_settled r = by_updated (λ z. settled_by (updated σ.workers w lock_phase) z.holder r ≡ true → settled σ r ≡ true) σ.recs y.rec lock_rec r
        (λ i s. rw (i, free) refl) (λ n s. sym (settled_goes σ.workers w lock_phase (σ.recs r).holder r (rw e refl)) ∙ s)

    lock_keeps : Keeps G σ lock_state w
    lock_keeps = record {
      next_up = omega arith;
      version = λ r v row h. h;
      stamp_up = λ r. omega (arith, lock_stamp r);
      opens = λ r c s. (lock_settled r s, lock_cells r);
      mine = λ r v n h. by_updated (λ z. z ≡ σ.recs r) σ.recs y.rec lock_rec r (λ i. absurd (none_some v (sym free ∙ (rw i at h)))) (λ m. refl);
      entry = λ t a n. refl;
      lives = λ u a l. l;
      writes = λ u a. refl;
    }

    pub lock_inv : Inv G lock_state
    lock_inv =
        let kn : Knows G σ w (Locking q reads answer locked (y ∷ todo)) = rw e at (inv.knows w) in
        record {
          knows = knows_all σ lock_state w lock_phase inv lock_keeps (record {
            reads_ok = reads_kept G σ lock_state w lock_keeps w q reads kn.reads_ok;
            ends = rw append_assoc kn.ends;
            holds = λ r h. by_updated (λ z. z.holder ≡ Some w) σ.recs y.rec lock_rec r (λ i. refl) (λ n. elim (has_append r locked y h) [ inl a ↦ kn.holds r a | inr b ↦ absurd (n b) ]);
          });
          owner = λ r v. by_updated (λ z. z.holder ≡ Some v → held (updated σ.workers w lock_phase v) r ≡ true) σ.recs y.rec lock_rec r
              (λ i h. rw (← some_same w v h, updated_same σ.workers w lock_phase) (has_append_new r locked y i))
              (λ n h. by_updated (λ z. held z r ≡ true) σ.workers w lock_phase v (λ i. has_append_old r locked y (rw (i, e) at (inv.owner r v h))) (λ m. inv.owner r v h));
          width_is = λ r. rw lock_cells (inv.width_is r);
          based = inv.based;
          fresh = λ r. rw lock_stamp (inv.fresh r);
          content = λ r s. rw (lock_stamp, lock_cells) (inv.content r (lock_settled r s));
          drawn = λ t r l h. elim (inv.drawn t r l h) [
            | inl a ↦ inl (rw lock_stamp a)
            | inr b ↦ inr (by_updated (λ x. pending x t r ≡ true) σ.workers w lock_phase (σ.log t).worker (λ i. rw (i, e) at b) (λ n. b))
          ];
          past = inv.past;
          final = λ t d. final_kept G σ lock_state w lock_keeps t (omega (arith, (inv.past t (decided_lives (σ.log t).status d)).1)) refl (inv.final t d);
        }

  -- ---- store ----
  module _ (σ : State) (w : ℕ) (item : CoreItem) (j : ℕ) (y : Install) (todo : List Install) (inv : Inv G σ)
      (e : σ.workers w ≡ Storing item j (y ∷ todo)) (more : j < length y.row) where
    abbrev store_phase : Phase
    store_phase = Storing item (suc j) (y ∷ todo)

    abbrev store_rec : Rec
    store_rec = record { stamp = (σ.recs y.rec).stamp; holder = (σ.recs y.rec).holder; cells = set (σ.recs y.rec).cells j (get_or y.row j 0) }

    abbrev store_state : State
    store_state = sets σ y.rec store_rec w store_phase

    store_knows : Knows G σ w (Storing item j (y ∷ todo))
    store_knows = rw e at (inv.knows w)

    store_held : (σ.recs y.rec).holder ≡ Some w
    store_held = store_knows.holds y.rec (rw (eq-eqb y.rec y.rec refl) refl)

    store_stamp : (r : ℕ) → (store_state.recs r).stamp ≡ (σ.recs r).stamp
    store_stamp r = by_updated (λ z. z.stamp ≡ (σ.recs r).stamp) σ.recs y.rec store_rec r (λ i. rw i refl) (λ n. refl)

    store_holder : (r : ℕ) → (store_state.recs r).holder ≡ (σ.recs r).holder
    store_holder r = by_updated (λ z. z.holder ≡ (σ.recs r).holder) σ.recs y.rec store_rec r (λ i. rw i refl) (λ n. refl)

    store_settled : (r : ℕ) → settled store_state r ≡ settled σ r
    store_settled r = ap (λ h. settled_by (updated σ.workers w store_phase) h r) (store_holder r) ∙ settled_goes σ.workers w store_phase (σ.recs r).holder r (rw e refl)

    store_open : settled σ y.rec ≡ false
    store_open = rw (store_held, e, eq-eqb y.rec y.rec refl) refl

    store_elsewhere : (r : ℕ) → settled σ r ≡ true → store_state.recs r ≡ σ.recs r
    store_elsewhere r s = by_updated (λ z. z ≡ σ.recs r) σ.recs y.rec store_rec r (λ i. absurd (true≢false (sym (rw i at s) ∙ store_open))) (λ n. refl)

    store_keeps : Keeps G σ store_state w
    store_keeps = record {
      next_up = omega arith;
      version = λ r v row h. h;
      stamp_up = λ r. omega (arith, store_stamp r);
      opens = λ r c s. let old : settled σ r ≡ true = sym (store_settled r) ∙ s in (old, ap (λ z. z.cells) (store_elsewhere r old));
      mine = λ r v n h. by_updated (λ z. z ≡ σ.recs r) σ.recs y.rec store_rec r (λ i. absurd (n (some_same v w (sym (rw i at h) ∙ store_held)))) (λ m. refl);
      entry = λ t a n. refl;
      lives = λ u a l. l;
      writes = λ u a. refl;
    }

    store_width : (r : ℕ) → length (store_state.recs r).cells ≡ G.width r
    store_width r = by_updated (λ z. length z.cells ≡ G.width r) σ.recs y.rec store_rec r (λ i. rw length-set (rw (← i) (inv.width_is r))) (λ n. inv.width_is r)

    pub store_inv : Inv G store_state
    store_inv =
        let kn : Knows G σ w (Storing item j (y ∷ todo)) = rw e at (inv.knows w) in
        record {
          knows = knows_all σ store_state w store_phase inv store_keeps (record {
            worker = kn.worker;
            status = kn.status;
            rows_are = kn.rows_are;
            holds = λ r h. rw store_holder (kn.holds r h);
            below = λ r h. rw store_stamp (kn.below r h);
            past = kn.past;
            distinct = kn.distinct;
            widths = kn.widths;
            stored = (more, rw (updated_same σ.recs y.rec store_rec) (store_more (σ.recs y.rec).cells y.row j more (inv.width_is y.rec ∙ sym kn.widths.0) kn.stored.1));
          });
          owner = λ r v h. by_updated (λ z. held z r ≡ true) σ.workers w store_phase v (λ i. rw (i, e) at (inv.owner r v (rw store_holder at h))) (λ m. inv.owner r v (rw store_holder at h));
          width_is = store_width;
          based = inv.based;
          fresh = λ r. rw store_stamp (inv.fresh r);
          content = λ r s. let old : settled σ r ≡ true = sym (store_settled r) ∙ s in rw (store_elsewhere r old) (inv.content r old);
          drawn = λ t r l h. elim (inv.drawn t r l h) [
            | inl a ↦ inl (rw store_stamp a)
            | inr b ↦ inr (by_updated (λ x. pending x t r ≡ true) σ.workers w store_phase (σ.log t).worker (λ i. rw (i, e) at b) (λ n. b))
          ];
          past = inv.past;
          final = λ t d. final_kept G σ store_state w store_keeps t (omega (arith, (inv.past t (decided_lives (σ.log t).status d)).1)) refl (inv.final t d);
        }

  -- ---- the closing store of a refused attempt ----
  module _ (σ : State) (w q : ℕ) (y : Install) (todo : List Install) (inv : Inv G σ) (e : σ.workers w ≡ Refusing q (y ∷ todo)) where
    abbrev free_phase : Phase
    free_phase = Refusing q todo

    abbrev free_rec : Rec
    free_rec = record { stamp = (σ.recs y.rec).stamp; holder = None; cells = (σ.recs y.rec).cells }

    abbrev free_state : State
    free_state = sets σ y.rec free_rec w free_phase

    free_held : (σ.recs y.rec).holder ≡ Some w
    free_held = let kn : Knows G σ w (Refusing q (y ∷ todo)) = rw e at (inv.knows w) in kn.holds y.rec (rw (eq-eqb y.rec y.rec refl) refl)

    free_stamp : (r : ℕ) → (free_state.recs r).stamp ≡ (σ.recs r).stamp
    free_stamp r = by_updated (λ z. z.stamp ≡ (σ.recs r).stamp) σ.recs y.rec free_rec r (λ i. rw i refl) (λ n. refl)

    free_cells : (r : ℕ) → (free_state.recs r).cells ≡ (σ.recs r).cells
    free_cells r = by_updated (λ z. z.cells ≡ (σ.recs r).cells) σ.recs y.rec free_rec r (λ i. rw i refl) (λ n. refl)

    free_settled : (r : ℕ) → settled free_state r ≡ true → settled σ r ≡ true
    free_settled r = by_updated (λ z. settled_by (updated σ.workers w free_phase) z.holder r ≡ true → settled σ r ≡ true) σ.recs y.rec free_rec r
        (λ i s. rw (i, free_held, e) refl) (λ n s. sym (settled_goes σ.workers w free_phase (σ.recs r).holder r (rw e refl)) ∙ s)

    free_keeps : Keeps G σ free_state w
    free_keeps = record {
      next_up = omega arith;
      version = λ r v row h. h;
      stamp_up = λ r. omega (arith, free_stamp r);
      opens = λ r c s. (free_settled r s, free_cells r);
      mine = λ r v n h. by_updated (λ z. z ≡ σ.recs r) σ.recs y.rec free_rec r (λ i. absurd (n (some_same v w (sym (rw i at h) ∙ free_held)))) (λ m. refl);
      entry = λ t a n. refl;
      lives = λ u a l. l;
      writes = λ u a. refl;
    }

    pub free_inv : Inv G free_state
    free_inv =
        let kn : Knows G σ w (Refusing q (y ∷ todo)) = rw e at (inv.knows w) in
        record {
          knows = knows_all σ free_state w free_phase inv free_keeps (record {
            holds = λ r h. by_updated (λ z. z.holder ≡ Some w) σ.recs y.rec free_rec r (λ i. absurd (true≢false (sym (rw i at h) ∙ kn.distinct.0))) (λ n. kn.holds r (rw (ne_eqb r y.rec n) h));
            distinct = kn.distinct.1;
          });
          owner = λ r v. by_updated (λ z. z.holder ≡ Some v → held (updated σ.workers w free_phase v) r ≡ true) σ.recs y.rec free_rec r
              (λ i h. absurd (none_some v h))
              (λ n h. by_updated (λ z. held z r ≡ true) σ.workers w free_phase v (λ i. rw (i, e, ne_eqb r y.rec n) at (inv.owner r v h)) (λ m. inv.owner r v h));
          width_is = λ r. rw free_cells (inv.width_is r);
          based = inv.based;
          fresh = λ r. rw free_stamp (inv.fresh r);
          content = λ r s. rw (free_stamp, free_cells) (inv.content r (free_settled r s));
          drawn = λ t r l h. elim (inv.drawn t r l h) [
            | inl a ↦ inl (rw free_stamp a)
            | inr b ↦ inr (by_updated (λ x. pending x t r ≡ true) σ.workers w free_phase (σ.log t).worker (λ i. rw (i, e) at b) (λ n. b))
          ];
          past = inv.past;
          final = λ t d. final_kept G σ free_state w free_keeps t (omega (arith, (inv.past t (decided_lives (σ.log t).status d)).1)) refl (inv.final t d);
        }

  -- ---- the closing store of a decided attempt ----
  module _ (σ : State) (w : ℕ) (item : CoreItem) (j : ℕ) (y : Install) (todo : List Install) (inv : Inv G σ)
      (e : σ.workers w ≡ Storing item j (y ∷ todo)) (whole : length y.row ≤ j) where
    abbrev close_phase : Phase
    close_phase = Storing item 0 todo

    abbrev close_rec : Rec
    close_rec = record { stamp = item.stamp; holder = None; cells = (σ.recs y.rec).cells }

    abbrev close_state : State
    close_state = sets σ y.rec close_rec w close_phase

    close_knows : Knows G σ w (Storing item j (y ∷ todo))
    close_knows = rw e at (inv.knows w)

    close_first : has y.rec (y ∷ todo) ≡ true
    close_first = rw (eq-eqb y.rec y.rec refl) refl

    close_held : (σ.recs y.rec).holder ≡ Some w
    close_held = close_knows.holds y.rec close_first

    close_below : (σ.recs y.rec).stamp < item.stamp
    close_below = close_knows.below y.rec close_first

    -- a record that is still to close is another one
    close_other : (r : ℕ) → has r todo ≡ true → r ≢ y.rec
    close_other r h i = true≢false (sym (rw i at h) ∙ close_knows.distinct.0)

    close_elsewhere : (r : ℕ) → r ≢ y.rec → close_state.recs r ≡ σ.recs r
    close_elsewhere r n = updated_other σ.recs y.rec close_rec r n

    close_settled : (r : ℕ) → r ≢ y.rec → settled close_state r ≡ settled σ r
    close_settled r n = ap (λ z. settled_by (updated σ.workers w close_phase) z.holder r) (close_elsewhere r n) ∙ settled_goes σ.workers w close_phase (σ.recs r).holder r (rw (e, ne_eqb r y.rec n) refl)

    close_keeps : Keeps G σ close_state w
    close_keeps = record {
      next_up = omega arith;
      version = λ r v row h. h;
      stamp_up = λ r. by_updated (λ z. (σ.recs r).stamp ≤ z.stamp) σ.recs y.rec close_rec r (λ i. rw i (omega (arith, close_below))) (λ n. omega arith);
      opens = λ r c s. elim (eqb_tells r y.rec) [
        | inl i ↦ absurd (close_stays r i.1 c)
        | inr n ↦ (sym (close_settled r n.1) ∙ s, ap (λ z. z.cells) (close_elsewhere r n.1))
      ];
      mine = λ r v n h. by_updated (λ z. z ≡ σ.recs r) σ.recs y.rec close_rec r (λ i. absurd (n (some_same v w (sym (rw i at h) ∙ close_held)))) (λ m. refl);
      entry = λ t a n. refl;
      lives = λ u a l. l;
      writes = λ u a. refl;
    }
      where
        close_stays : (r : ℕ) → r ≡ y.rec → (close_state.recs r).stamp ≡ (σ.recs r).stamp → ⊥
        close_stays r i = rw (i, updated_same σ.recs y.rec close_rec) (λ c. omega (arith, close_below))

    close_content : Version G σ y.rec item.stamp (σ.recs y.rec).cells
    close_content =
        let kn = close_knows in
        let here : row_at y.rec (y ∷ todo) ≡ Some y.row = rw (eq-eqb y.rec y.rec refl) refl in
        let all : (σ.recs y.rec).cells ≡ y.row = stored_whole (σ.recs y.rec).cells y.row j whole (inv.width_is y.rec ∙ sym kn.widths.0) kn.stored.1 in
        inr (kn.status, sym (kn.rows_are y.rec close_first) ∙ here ∙ ap Some (sym all))

    close_last : (u r : ℕ) → r ≡ y.rec → pending (σ.workers (σ.log u).worker) u r ≡ true → u ≡ item.stamp
    close_last u r i b =
        let held_by = pending_holds σ (σ.log u).worker u r (σ.workers (σ.log u).worker) (inv.knows (σ.log u).worker) b in
        let self : (σ.log u).worker ≡ w = some_same (σ.log u).worker w (sym held_by ∙ (rw (← i) at close_held)) in
        eqb-true u item.stamp (both (u == item.stamp) (has r (y ∷ todo)) (rw (self, e) at b)).0

    close_drawn_here : (u r : ℕ) → r ≡ y.rec → (u ≤ (σ.recs r).stamp) ⊎ (pending (σ.workers (σ.log u).worker) u r ≡ true) → u ≤ (close_state.recs r).stamp
    close_drawn_here u r i d = rw (i, updated_same σ.recs y.rec close_rec) (elim d [
      | inl a ↦ (let below : (σ.recs r).stamp < item.stamp = rw (← i) at close_below in omega arith)
      | inr b ↦ omega (arith, close_last u r i b)
    ])

    pub close_inv : Inv G close_state
    close_inv =
        let kn = close_knows in
        record {
          knows = knows_all σ close_state w close_phase inv close_keeps (record {
            worker = kn.worker;
            status = kn.status;
            rows_are = λ r h. (let k = kn.rows_are r (rw (ne_eqb r y.rec (close_other r h)) h) in rw (ne_eqb r y.rec (close_other r h)) at k);
            holds = λ r h. rw (close_elsewhere r (close_other r h)) (kn.holds r (rw (ne_eqb r y.rec (close_other r h)) h));
            below = λ r h. rw (close_elsewhere r (close_other r h)) (kn.below r (rw (ne_eqb r y.rec (close_other r h)) h));
            past = kn.past;
            distinct = kn.distinct.1;
            widths = kn.widths.1;
            stored = stored_none close_state todo G;
          });
          owner = λ r v. by_updated (λ z. z.holder ≡ Some v → held (updated σ.workers w close_phase v) r ≡ true) σ.recs y.rec close_rec r
              (λ i h. absurd (none_some v h))
              (λ n h. by_updated (λ z. held z r ≡ true) σ.workers w close_phase v (λ i. rw (i, e, ne_eqb r y.rec n) at (inv.owner r v h)) (λ m. inv.owner r v h));
          width_is = λ r. by_updated (λ z. length z.cells ≡ G.width r) σ.recs y.rec close_rec r (λ i. rw (← i) (inv.width_is r)) (λ n. inv.width_is r);
          based = inv.based;
          fresh = λ r. by_updated (λ z. z.stamp < σ.next) σ.recs y.rec close_rec r (λ i. kn.past) (λ n. inv.fresh r);
          content = λ r s. elim (eqb_tells r y.rec) [
            | inl i ↦ rw (i.1, updated_same σ.recs y.rec close_rec) close_content
            | inr n ↦ rw (close_elsewhere r n.1) (inv.content r (sym (close_settled r n.1) ∙ s))
          ];
          drawn = λ u r l h. elim (eqb_tells r y.rec) [
            | inl i ↦ inl (close_drawn_here u r i.1 (inv.drawn u r l h))
            | inr n ↦ elim (inv.drawn u r l h) [
              | inl a ↦ inl (rw (close_elsewhere r n.1) a)
              | inr b ↦ inr (by_updated (λ x. pending x u r ≡ true) σ.workers w close_phase (σ.log u).worker (λ i. rw (i, e, n.0) at b) (λ m. b))
            ]
          ];
          past = inv.past;
          final = λ t d. final_kept G σ close_state w close_keeps t (omega (arith, (inv.past t (decided_lives (σ.log t).status d)).1)) refl (inv.final t d);
        }
