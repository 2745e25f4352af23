-- A column store keeps the rule.
use Rattle.std.proofs.Common.{◌≡◌, ◌≢◌, ℕ, zero, suc, ◌+◌, ◌*◌, ◌/◌, ◌%◌, ◌<◌, ◌≤◌, List, [], ◌∷◌, ◌++◌, map, length, get_or, set, refl, sym, ap, ◌∙◌, subst, arith, length-append, length-set, get_or-set_same, get_or-set_other, eq-eqb, ne_eqb}
use Rattle.std.specs.Prelude.{Some, if◌then◌else◌, ◌==◌}
use mathlib.Core.Logic.{dite}
use mathlib.Core.Option.{some, some-ne-none, some-injective}
use native.Mathlib.Decide.{ℕ_discrete}
use lib.ListN.{get_elem?}
use Rattle.rl_store.specs.declared.view.Held.{Held}
use Rattle.rl_store.specs.declared.view.View.{View}
use Rattle.rl_store.specs.Entries.{In, entries, drawn_entry, of_item, of_attempt, held_rec, write_rec, Decided, Stands, Holds, IsDecided, Locks, Installs}
use Rattle.rl_store.specs.Layout.{Opening, place, cell_place, Version}
use Rattle.rl_store.specs.Rule.{Shared}
use Rattle.rl_store.specs.Views.{noted, with_cell}
use Rattle.rl_store.proofs.Grouped.{Rec, Fits, Hand, Apart, Kept}
use Rattle.rl_store.proofs.Views.{each_set, pairs_set, put, take_back}
use Rattle.rl_store.proofs.Quiet.{sum_set}
use Rattle.rl_store.proofs.Loads.{more_same}
use Rattle.rl_store.proofs.Turns.{Back, Forth, ent_turns, rec_turns, fits_turns, version_turns, open_turns, counted_turns}
use Rattle.rl_store.proofs.Locking.{to_old, back_same, forth_same, same_same}

pub note : ℕ → ℕ → Held → Held
note r n h = if h.rec == r then record h { stored = h.stored ++ n ∷ [] } else h

noted_at : (r n : ℕ) (hs : List Held) (i : ℕ) (x : Held) → get_elem? (noted r n hs) i ≡ some x → (h : Held) × (get_elem? hs i ≡ some h) × (note r n h ≡ x)
unfolding note
noted_at r n [] i x e = absurd (some-ne-none x (sym e))
noted_at r n (h ∷ hs) zero x e = (h, refl, some-injective _ _ e)
noted_at r n (h ∷ hs) (suc i) x e = noted_at r n hs i x e

at_noted : (r n : ℕ) (hs : List Held) (i : ℕ) (h : Held) → get_elem? hs i ≡ some h → get_elem? (noted r n hs) i ≡ some (note r n h)
unfolding note
at_noted r n [] i h e = absurd (some-ne-none h (sym e))
at_noted r n (x ∷ hs) zero h e = ap (λ y. some (note r n y)) (some-injective _ _ e)
at_noted r n (x ∷ hs) (suc i) h e = at_noted r n hs i h e

pub hit : (r n : ℕ) (h : Held) → h.rec ≡ r → note r n h ≡ record h { stored = h.stored ++ n ∷ [] }
unfolding note
hit r n h e = ap (λ b. if b then record h { stored = h.stored ++ n ∷ [] } else h) (eq-eqb h.rec r e)

pub miss : (r n : ℕ) (h : Held) → h.rec ≢ r → note r n h ≡ h
unfolding note
miss r n h e = ap (λ b. if b then record h { stored = h.stored ++ n ∷ [] } else h) (ne_eqb h.rec r e)

pub noted_cons : (r n : ℕ) (h : Held) (hs : List Held) → noted r n (h ∷ hs) ≡ note r n h ∷ noted r n hs
unfolding note
noted_cons r n h hs = refl

note_rec : (r n : ℕ) (h : Held) → (note r n h).rec ≡ h.rec
note_rec r n h = dite (ℕ_discrete h.rec r) (λ e. ap (λ (x : Held). x.rec) (hit r n h e)) (λ ne. ap (λ (x : Held). x.rec) (miss r n h ne))

noted_recs : (r n : ℕ) (hs : List Held) → map held_rec (noted r n hs) ≡ map held_rec hs
unfolding note
noted_recs r n [] = refl
noted_recs r n (h ∷ hs) = λ i. note_rec r n h i ∷ noted_recs r n hs i

module _ (b : Opening) (s : Shared) (h : Kept b s) (id : ℕ) (v : View) (at : get_elem? s.views id ≡ some v) (t : ℕ) (drawn : v.attempt.drawn ≡ Some t) (sure : Decided (of_attempt v.attempt t)) (y : Held) (held : In y v.attempt.held) (more : length y.stored < (1 + b.columns y.rec)) (n : ℕ) where
  abbrev r : ℕ
  r = y.rec

  abbrev k : ℕ
  k = length y.stored

  abbrev ws : List ℕ
  ws = set s.words (cell_place r k) n

  abbrev w : View
  w = with_cell v r n

  abbrev after : List View
  after = set s.views id w

  hand : Hand b s.words v y
  hand = (h.facts.each id v at).hands y held

  same : entries w ≡ entries v
  same = ap (λ d. map of_item v.items ++ drawn_entry w.attempt d) drawn
      ∙ (ap (λ ms. map of_item v.items ++ record { stamp = t; reads = v.attempt.reads; validated = v.attempt.validated; marks = ms ++ map write_rec v.attempt.closed; closed = v.attempt.closed; live = (of_attempt v.attempt t).live } ∷ []) (noted_recs r n v.attempt.held)
      ∙ sym (ap (λ d. map of_item v.items ++ drawn_entry v.attempt d) drawn))

  here : get_or ws (cell_place r k) 0 ≡ n
  here = get_or-set_same s.words (cell_place r k) n 0 (let l = h.facts.wide in let i = hand.inside in let m = h.facts.narrow r in omega arith)

  word : (q : ℕ) → get_or ws (place q) 0 ≡ get_or s.words (place q) 0
  word q = get_or-set_other s.words (cell_place r k) (place q) n 0 (λ e. let p : 1 + 6 * q ≡ 2 + (6 * r + k) = e in let m = h.facts.narrow r in omega arith)

  cell : (q j : ℕ) → j < (1 + b.columns q) → (q ≡ r → j ≢ k) → get_or ws (cell_place q j) 0 ≡ get_or s.words (cell_place q j) 0
  cell q j l ne = get_or-set_other s.words (cell_place r k) (cell_place q j) n 0 (λ e. let p : 2 + (6 * q + j) ≡ 2 + (6 * r + k) = e in let m = h.facts.narrow r in let m' = h.facts.narrow q in ne (omega arith) (omega arith))

  zero_same : get_or ws 0 0 ≡ get_or s.words 0 0
  zero_same = get_or-set_other s.words (cell_place r k) 0 n 0 (λ e. let p : 0 ≡ 2 + (6 * r + k) = e in omega arith)

  up : get_or s.words 0 0 ≤ get_or ws 0 0
  up = let z = zero_same in omega arith

  is_decided : IsDecided v.attempt
  is_decided = (t, drawn, sure)

  -- a Held of w with this record
  holds_new : (q : ℕ) → Holds v q → Holds w q
  holds_new q x = (note r n x.0, (x.1.0, at_noted r n v.attempt.held x.1.0 x.0 x.1.1), note_rec r n x.0 ∙ x.2)

  holds_old : (q : ℕ) → Holds w q → Holds v q
  holds_old q x = let z = noted_at r n v.attempt.held x.1.0 x.0 x.1.1 in (z.0, (x.1.0, z.1), sym (note_rec r n z.0) ∙ (ap (λ (u : Held). u.rec) z.2 ∙ x.2))

  back : Back b (Stands s.views) (Stands after)
  back = back_same b s h id v w at same

  forth : Forth b (Stands s.views) (Stands after)
  forth = forth_same b s h id v w at same

  locks_to : (q : ℕ) → Locks s.views q → Locks after q
  locks_to q x = put (λ u. Holds u q) s.views id v w at (holds_new q) x.0 x.1 x.2 x.3

  locks_from : (q : ℕ) → Locks after q → Locks s.views q
  locks_from q x = take_back (λ u. Holds u q) s.views id v w at (holds_old q) x.0 x.1 x.2 x.3

  still_decided : IsDecided v.attempt → IsDecided w.attempt
  still_decided d = (d.0, d.1, d.2)

  installs_to : (q : ℕ) → Installs s.views q → Installs after q
  installs_to q x = let z = put (λ u. Holds u q × IsDecided u.attempt) s.views id v w at (λ p. (holds_new q p.0, still_decided p.1)) x.0 x.1 x.2 (x.3, x.4) in (z.0, z.1, z.2, z.3.0, z.3.1)

  installing : Installs after r
  installing = installs_to r (id, v, at, (y, held, refl), is_decided)

  open_cells : (q : ℕ) → q < b.records → get_or s.words (place q) 0 / 2 ≡ get_or ws (place q) 0 / 2 → (Installs after q → ⊥) → (j : ℕ) → j < (1 + b.columns q) → get_or ws (cell_place q j) 0 ≡ get_or s.words (cell_place q j) 0
  open_cells q l z bare j i = cell q j i (λ e. absurd (bare (subst (Installs after) (sym e) installing)))

  later : (q : ℕ) → q < b.records → get_or s.words (place q) 0 / 2 ≤ get_or ws (place q) 0 / 2
  later q l = let z = word q in omega arith

  goes : (j : ℕ) (u : View) → j ≢ id → get_elem? s.views j ≡ some u → Fits b ws (Stands after) (Installs after) u
  goes j u ne e = fits_turns b (Stands s.views) (Stands after) back forth s.words ws up (Installs s.views) (Installs after) later open_cells (λ q _. installs_to q) u
      (λ q l x. (ap (λ m. m / 2) (word q), λ i m. cell q i m (λ same_r. absurd ((h.facts.apart j id u v ne e at).records r (subst (Holds u) same_r x) (y, held, refl)))))
      (h.facts.each j u e)

  mine : Fits b ws (Stands after) (Installs after) w
  mine = let f = h.facts.each id v at in record {
    opened = λ x e. open_turns b (Stands s.views) (Stands after) back forth s.words ws up (Installs s.views) (Installs after) later open_cells (λ q _. installs_to q) x (f.opened x e);
    counted = λ x i. counted_turns b (Stands s.views) (Stands after) back forth s.words ws up (Installs s.views) (Installs after) later open_cells (λ q _. installs_to q) x (f.counted x i);
    alone = f.alone;
    hands = λ x i. let z = noted_at r n v.attempt.held i.0 x i.1 in subst (Hand b ws w) z.2 (noted_hand z.0 (i.0, z.1) (f.hands z.0 (i.0, z.1)));
    once = λ x g i j p q e. let a = noted_at r n v.attempt.held i x p in let c = noted_at r n v.attempt.held j g q in
        f.once a.0 c.0 i j a.1 c.1 (sym (note_rec r n a.0) ∙ (ap (λ (u : Held). u.rec) a.2 ∙ (e ∙ sym (sym (note_rec r n c.0) ∙ ap (λ (u : Held). u.rec) c.2))));
    undrawn = f.undrawn;
    unclosed = λ x i. still_decided (f.unclosed x i);
    differ = λ e g i j p q. f.differ e g i j (subst (λ l. get_elem? l i ≡ some e) same p) (subst (λ l. get_elem? l j ≡ some g) same q);
    drew = subst (λ l. length l ≤ v.draws) (sym same) f.drew;
  }
    where
      noted_hand : (x : Held) → In x v.attempt.held → Hand b s.words v x → Hand b ws w (note r n x)
      noted_hand x i g = dite (ℕ_discrete x.rec r)
          (λ e. let one : x ≡ y = only x i e in subst (Hand b ws w) (sym (hit r n x e)) (subst (λ (z : Held). Hand b ws w (record z { stored = z.stored ++ n ∷ [] })) (sym one) record {
            inside = hand.inside;
            old = hand.old ∙ ap (λ m. 2 * (m / 2)) (sym (word r));
            short = (let l = length-append y.stored (n ∷ []) in omega arith);
            stored = λ j l. sym (more_same y.stored n j (λ j. get_or ws (cell_place r j) 0)
                (λ i m. sym (cell r i (omega arith) (λ _ same_k. omega arith) ∙ hand.stored i m)) (sym here) l);
            early = λ _. still_decided is_decided;
            later = λ t' e'. subst (λ m. m / 2 < t') (sym (word r)) (hand.later t' e');
          }))
          (λ ne. subst (Hand b ws w) (sym (miss r n x ne)) record {
            inside = g.inside;
            old = g.old ∙ ap (λ m. 2 * (m / 2)) (sym (word x.rec));
            short = g.short;
            stored = λ j l. cell x.rec j (let z = g.short in omega arith) (λ e. absurd (ne e)) ∙ g.stored j l;
            early = λ l. still_decided (g.early l);
            later = λ t' e'. subst (λ m. m / 2 < t') (sym (word x.rec)) (g.later t' e');
          })
        where
          only : (x : Held) → In x v.attempt.held → x.rec ≡ r → x ≡ y
          only x i e = let z = (h.facts.each id v at).once x y i.0 held.0 i.1 held.1 e in some-injective x y (sym i.1 ∙ (ap (get_elem? v.attempt.held) z ∙ held.1))

  pub stores : Kept b record { words = ws; homes = s.homes; views = after }
  stores = record {
    facts = record {
      wide = length-set s.words (cell_place r k) n ∙ h.facts.wide;
      recs = λ q l. dite (ℕ_discrete q r)
          (λ e. subst (Rec b ws (Stands after) (Locks after) (Installs after)) (sym e) own)
          (λ ne. rec_turns b (Stands s.views) (Stands after) back forth s.words ws up (Locks s.views) (Installs s.views) (Locks after) (Installs after) q (word q) (λ j i. cell q j i (λ e. absurd (ne e))) (locks_to q) (locks_from q) (installs_to q) (same_same b s h id v w at same q) (h.facts.recs q l));
      ents = λ e x. ent_turns b (Stands s.views) (Stands after) back forth s.words ws up e (to_old b s h id v w at same e x) (h.facts.ents e (to_old b s h id v w at same e x));
      each = each_set (λ j u. Fits b ws (Stands after) (Installs after) u) s.views id w goes mine;
      apart = pairs_set Apart s.views id w h.facts.apart (λ j u p e.
          let a = h.facts.apart id j v u (λ z. p (sym z)) at e in
          let c = h.facts.apart j id u v p e at in (
            record { records = λ q x z. a.records q (holds_old q x) z; stamps = λ x z i m. a.stamps x z (subst (In x) same i) m },
            record { records = λ q x z. c.records q x (holds_old q z); stamps = λ x z i m. c.stamps x z i (subst (In z) same m) },
          ));
      opening = h.facts.opening;
      narrow = h.facts.narrow;
    };
    next = zero_same ∙ (h.next ∙ ap (λ m. 2 + m) (sym (sum_set b (λ u. u.draws) s.views id v w at refl)));
    whole = (let a = h.whole in let d = sum_set b (λ u. u.draws) s.views id v w at refl in let e = sum_set b (λ u. u.tries) s.views id v w at refl in omega arith);
    few = h.few;
  }
    where
      own : Rec b ws (Stands after) (Locks after) (Installs after) r
      own = let c = h.facts.recs r hand.inside in record {
        locked = λ e. locks_to r (c.locked (ap (λ m. m % 2) (sym (word r)) ∙ e));
        locks = λ x. ap (λ m. m % 2) (word r) ∙ c.locks (locks_from r x);
        row = c.row;
        version = subst (λ m. Version b (Stands after) r (m / 2) c.row) (sym (word r)) (version_turns b (Stands s.views) (Stands after) back forth r (get_or s.words (place r) 0 / 2) c.row c.version);
        shown = λ bare. absurd (bare installing);
        newest = λ f cells x d z. subst (λ m. f.stamp ≤ m / 2) (sym (word r)) (c.newest f cells (to_old b s h id v w at same f x) d z);
        below = (let z = zero_same in let t' = word r in let l = c.below in omega arith);
      }
