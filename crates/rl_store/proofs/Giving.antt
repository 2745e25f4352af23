-- An unlock keeps the rule: the first one gives the attempt up, and the last one ends it.
use Rattle.std.proofs.Common.{◌≡◌, ◌≢◌, ℕ, ◌+◌, ◌*◌, ◌/◌, ◌<◌, ◌≤◌, true, true≢false, List, [], ◌∷◌, ◌++◌, map, length, get_or, set, refl, sym, ap, ◌∙◌, subst, inl, inr, ⊎_elim, arith, length-append, length-set, get_or-set_same, get_or-set_other}
use Rattle.std.specs.Prelude.{Option, Some, None}
use mathlib.Core.Logic.{dite}
use mathlib.Core.Option.{some, some-injective}
use native.Mathlib.Decide.{ℕ_discrete}
use lib.ListN.{get_elem?}
use Rattle.atomic_table.proofs.Lists.{at_longer, at_map, set_here}
use Rattle.rl_store.specs.declared.view.Held.{Held}
use Rattle.rl_store.specs.declared.view.View.{View}
use Rattle.rl_store.specs.Entries.{In, Entry, entries, drawn_entry, of_item, of_attempt, held_rec, write_rec, Decided, Stands, Holds, IsDecided, Locks, Installs}
use Rattle.rl_store.specs.Layout.{Opening, place, cell_place, Version}
use Rattle.rl_store.specs.Rule.{Shared}
use Rattle.rl_store.proofs.Grouped.{Rec, Ent, Fits, Hand, Apart, Kept}
use Rattle.rl_store.specs.Views.{without, rested, unlocked_with}
use Rattle.rl_store.proofs.Views.{each_set, pairs_set, put, take_back}
use Rattle.rl_store.proofs.Quiet.{sum_set}
use Rattle.rl_store.proofs.Seating.{at_append, at_behind, rests_kept}
use Rattle.rl_store.proofs.Locking.{undrawn_entries, back_same, forth_same, same_same}
use Rattle.rl_store.proofs.Finishing.{twice, left_there}
use Rattle.rl_store.proofs.Without.{stood, stays, once_without}
use Rattle.rl_store.proofs.Turns.{Back, Forth, Same, ent_turns, rec_turns, fits_turns, version_turns}
use Rattle.rl_store.proofs.Marks.{in_map}
use Rattle.rl_store.proofs.Validates.{swap_back, swap_forth, swap_same, swap_sides, swap_differ, to_old, old_stands}

-- the view after an unlock that leaves locks: the record is gone, and the attempt is given up
abbrev pub unlocked : View → ℕ → View
unlocked v r = record v { attempt = record v.attempt { held = without r v.attempt.held; given_up = true } }

module _ (b : Opening) (s : Shared) (h : Kept b s) (id : ℕ) (v : View) (at : get_elem? s.views id ≡ some v) (bare : IsDecided v.attempt → ⊥) (y : Held) (held : In y v.attempt.held) where
  abbrev pub r : ℕ
  r = y.rec

  abbrev pub w : View
  w = unlocked v r

  abbrev pub ws : List ℕ
  ws = set s.words (place r) y.old

  abbrev pub after : List View
  after = set s.views id w

  pub hand : Hand b s.words v y
  hand = (h.facts.each id v at).hands y held

  here : get_or ws (place r) 0 ≡ y.old
  here = get_or-set_same s.words (place r) y.old 0 (let l = h.facts.wide in let i = hand.inside in omega arith)

  word : (q : ℕ) → q ≢ r → get_or ws (place q) 0 ≡ get_or s.words (place q) 0
  word q ne = get_or-set_other s.words (place r) (place q) y.old 0 (λ e. ne (let p : 1 + 6 * q ≡ 1 + 6 * r = e in omega arith))

  cell : (q k : ℕ) → k < (1 + b.columns q) → get_or ws (cell_place q k) 0 ≡ get_or s.words (cell_place q k) 0
  cell q k l = get_or-set_other s.words (place r) (cell_place q k) y.old 0 (λ e. let p : 2 + (6 * q + k) ≡ 1 + 6 * r = e in let n = h.facts.narrow q in omega arith)

  zero_same : get_or ws 0 0 ≡ get_or s.words 0 0
  zero_same = get_or-set_other s.words (place r) 0 y.old 0 (λ e. let p : 0 ≡ 1 + 6 * r = e in omega arith)

  pub up : get_or s.words 0 0 ≤ get_or ws 0 0
  up = let z = zero_same in omega arith

  stamp : (q : ℕ) → get_or s.words (place q) 0 / 2 ≡ get_or ws (place q) 0 / 2
  stamp q = dite (ℕ_discrete q r)
      (λ e. subst (λ (x : ℕ). get_or s.words (place x) 0 / 2 ≡ get_or ws (place x) 0 / 2) (sym e) (let a = here in let c = hand.old in omega arith))
      (λ ne. ap (λ x. x / 2) (sym (word q ne)))

  alone : (j : ℕ) (u : View) → j ≢ id → get_elem? s.views j ≡ some u → Holds u r → ⊥
  alone j u ne e k = (h.facts.apart j id u v ne e at).records r k (y, held, refl)

  pub holds_old : (q : ℕ) → Holds w q → Holds v q
  holds_old q x = let z = stood r v.attempt.held x.1.0 x.0 x.1.1 in (x.0, (z.0, z.1), x.2)

  holds_new : (q : ℕ) → q ≢ r → Holds v q → Holds w q
  holds_new q ne x = (x.0, stays r v.attempt.held x.1.0 x.0 x.1.1 (λ e. ne (sym x.2 ∙ e)), x.2)

  gone : Holds w r → ⊥
  gone x = let z = stood r v.attempt.held x.1.0 x.0 x.1.1 in z.2 x.2

  locks_to : (q : ℕ) → q ≢ r → Locks s.views q → Locks after q
  locks_to q ne x = put (λ u. Holds u q) s.views id v w at (holds_new q ne) x.0 x.1 x.2 x.3

  locks_from : (q : ℕ) → Locks after q → Locks s.views q
  locks_from q x = take_back (λ u. Holds u q) s.views id v w at (holds_old q) x.0 x.1 x.2 x.3

  free : Locks after r → ⊥
  free x = ⊎_elim
      (λ (q : (x.0 ≡ id) × (w ≡ x.1)). gone (subst (λ u. Holds u r) (sym q.1) x.3))
      (λ (q : (x.0 ≢ id) × (get_elem? s.views x.0 ≡ some x.1)). alone x.0 x.1 q.0 q.1 x.3)
      (Rattle.atomic_table.proofs.Lists.at_set s.views id x.0 w x.1 x.2)

  installs_to : (q : ℕ) → Installs s.views q → Installs after q
  installs_to q x = let z = put (λ u. Holds u q × IsDecided u.attempt) s.views id v w at (λ p. absurd (bare p.1)) x.0 x.1 x.2 (x.3, x.4) in (z.0, z.1, z.2, z.3.0, z.3.1)

  -- by what becomes of the entries
  module _ (back : Back b (Stands s.views) (Stands after)) (forth : Forth b (Stands s.views) (Stands after)) (same : (q : ℕ) → Same b (Stands s.views) (Stands after) q)
      (ents : ((o : Entry) → Stands s.views o → Ent b ws (Stands after) o) → (e : Entry) → Stands after e → Ent b ws (Stands after) e)
      (sides : (j : ℕ) (u : View) → j ≢ id → get_elem? s.views j ≡ some u → Apart w u × Apart u w)
      (differ : (e f : Entry) (i j : ℕ) → get_elem? (entries w) i ≡ some e → get_elem? (entries w) j ≡ some f → e.stamp ≡ f.stamp → i ≡ j)
      (drew : length (entries w) ≤ v.draws) where
    goes : (j : ℕ) (u : View) → get_elem? s.views j ≡ some u → Fits b ws (Stands after) (Installs after) u
    goes j u e = fits_turns b (Stands s.views) (Stands after) back forth s.words ws up (Installs s.views) (Installs after) (λ q l. (let z = stamp q in omega arith)) (λ q l z n k i. cell q k i) (λ q _. installs_to q) u (λ q l k. (sym (stamp q), λ i n. cell q i n)) (h.facts.each j u e)

    fits : Fits b ws (Stands after) (Installs after) w
    fits = let f = goes id v at in record {
      opened = f.opened;
      counted = f.counted;
      alone = f.alone;
      hands = λ x i. let z = stood r v.attempt.held i.0 x i.1 in let g = f.hands x (z.0, z.1) in record { inside = g.inside; old = g.old; short = g.short; stored = g.stored; early = λ l. absurd (bare (g.early l)); later = g.later };
      once = once_without r v.attempt.held f.once;
      undrawn = f.undrawn;
      unclosed = λ x i. absurd (bare (f.unclosed x i));
      differ = differ;
      drew = drew;
    }

    new_rec : Rec b ws (Stands after) (Locks after) (Installs after) r
    new_rec = let c = h.facts.recs r hand.inside in record {
      locked = λ odd. absurd (let z = here in let o = hand.old in omega arith);
      locks = λ k. absurd (free k);
      row = c.row;
      version = subst (λ n. Version b (Stands after) r n c.row) (stamp r) (version_turns b (Stands s.views) (Stands after) back forth r (get_or s.words (place r) 0 / 2) c.row c.version);
      shown = λ _. let sh = c.shown (λ x. ⊎_elim (λ (q : x.0 ≡ id). bare (subst (λ (u : View). IsDecided u.attempt) (some-injective _ _ (sym x.2 ∙ (ap (get_elem? s.views) q ∙ at))) x.4)) (λ (q : x.0 ≢ id). alone x.0 x.1 q x.2 x.3) (dite (ℕ_discrete x.0 id) (λ e. inl e) (λ e. inr e))) in (sh.0, λ k l. cell r k l ∙ sh.1 k l);
      newest = λ f cells x d k. let o = same r f cells x d k in subst (λ n. f.stamp ≤ n) (stamp r) (subst (λ n. n ≤ get_or s.words (place r) 0 / 2) o.3 (c.newest o.0 cells o.1 o.2 o.4));
      below = (let z = zero_same in let e = stamp r in let l = c.below in omega arith);
    }

    pub lets_go : Kept b record { words = ws; homes = s.homes; views = after }
    lets_go = record {
      facts = record {
        wide = length-set s.words (place r) y.old ∙ h.facts.wide;
        recs = λ q l. dite (ℕ_discrete q r)
            (λ e. subst (Rec b ws (Stands after) (Locks after) (Installs after)) (sym e) new_rec)
            (λ ne. rec_turns b (Stands s.views) (Stands after) back forth s.words ws up (Locks s.views) (Installs s.views) (Locks after) (Installs after) q (word q ne) (cell q) (locks_to q ne) (locks_from q) (installs_to q) (same q) (h.facts.recs q l));
        ents = ents (λ o x. ent_turns b (Stands s.views) (Stands after) back forth s.words ws up o x (h.facts.ents o x));
        each = each_set (λ j u. Fits b ws (Stands after) (Installs after) u) s.views id w (λ j u _ e. goes j u e) fits;
        apart = pairs_set Apart s.views id w h.facts.apart sides;
        opening = h.facts.opening;
        narrow = h.facts.narrow;
      };
      next = zero_same ∙ (h.next ∙ ap (λ n. 2 + n) (sym (sum_set b (λ u. u.draws) s.views id v w at refl)));
      whole = (let a = h.whole in let d = sum_set b (λ u. u.draws) s.views id v w at refl in let e = sum_set b (λ u. u.tries) s.views id v w at refl in omega arith);
      few = h.few;
    }

  -- before the draw, the entries are the same
  pub lets_go_undrawn : v.attempt.drawn ≡ None → Kept b record { words = ws; homes = s.homes; views = after }
  lets_go_undrawn drawn =
      let same : entries w ≡ entries v = undrawn_entries w drawn ∙ sym (undrawn_entries v drawn) in
      let f = h.facts.each id v at in
      lets_go (back_same b s h id v w at same) (forth_same b s h id v w at same) (same_same b s h id v w at same)
      (λ each e x. each e (Rattle.rl_store.proofs.Locking.to_old b s h id v w at same e x))
      (λ j u p e.
      let a = h.facts.apart id j v u (λ z. p (sym z)) at e in
      let c = h.facts.apart j id u v p e at in (
        record { records = λ q x z. a.records q (holds_old q x) z; stamps = λ x z i m. a.stamps x z (subst (In x) same i) m },
        record { records = λ q x z. c.records q x (holds_old q z); stamps = λ x z i m. c.stamps x z i (subst (In z) same m) },
      ))
      (λ e g i j p q. f.differ e g i j (subst (λ l. get_elem? l i ≡ some e) same p) (subst (λ l. get_elem? l j ≡ some g) same q))
      (subst (λ l. length l ≤ v.draws) (sym same) f.drew)

  -- after it, the own entry is given up
  pub lets_go_drawn : (t : ℕ) → v.attempt.drawn ≡ Some t → Kept b record { words = ws; homes = s.homes; views = after }
  lets_go_drawn t drawn =
      lets_go
      (swap_back b s h id v w at items old m ev ew refl (λ l. dead l) marks)
      (swap_forth b s h id v w at items old m ev ew refl (λ d. absurd (unsure d)) (λ q cells c. c))
      (λ q. swap_same b s h id v w at items old m ev ew refl q (λ cells d c. dead d.0))
      (λ each e x. ⊎_elim
      (λ o. each e o)
      (λ (q : m ≡ e). subst (Ent b ws (Stands after)) q (let k = each old (old_stands b s h id v w at items old m ev ew refl) in record { rows = k.rows; older = k.older; valid = k.valid; from = k.from; to = k.to }))
      (to_old b s h id v w at items old m ev ew refl e x))
      (swap_sides b s h id v w at items old m ev ew refl holds_old)
      (swap_differ b s h id v w at items old m ev ew refl (h.facts.each id v at).differ)
      (let a = (h.facts.each id v at).drew in let p = ap length ev ∙ length-append items (old ∷ []) in let q = ap length ew ∙ length-append items (m ∷ []) in omega arith)
    where
      items : List Entry
      items = map of_item v.items

      old : Entry
      old = of_attempt v.attempt t

      m : Entry
      m = of_attempt w.attempt t

      ev : entries v ≡ items ++ old ∷ []
      ev = ap (λ d. items ++ drawn_entry v.attempt d) drawn

      ew : entries w ≡ items ++ m ∷ []
      ew = ap (λ d. items ++ drawn_entry w.attempt d) drawn

      unsure : Decided old → ⊥
      unsure d = bare (t, drawn, d)

      dead : {P : Type 0} → m.live ≡ true → P
      dead e = absurd (true≢false (sym e))

      marks : (q : ℕ) → In q m.marks → In q old.marks
      marks q i = ⊎_elim
          (λ (p : get_elem? (map held_rec (without r v.attempt.held)) i.0 ≡ some q).
          let x = in_map held_rec (without r v.attempt.held) i.0 q p in
          let k = stood r v.attempt.held x.1.0 x.0 x.1.1 in
          (k.0, at_longer (map held_rec v.attempt.held) (map write_rec v.attempt.closed) k.0 q (subst (λ n. get_elem? (map held_rec v.attempt.held) k.0 ≡ some n) x.2 (at_map held_rec v.attempt.held k.0 x.0 k.1))))
          (λ (p : (k : ℕ) × (i.0 ≡ length (map held_rec (without r v.attempt.held)) + k) × (get_elem? (map write_rec v.attempt.closed) k ≡ some q)).
          (length (map held_rec v.attempt.held) + p.0, at_behind (map held_rec v.attempt.held) (map write_rec v.attempt.closed) p.0 q p.2))
          (at_append (map held_rec (without r v.attempt.held)) (map write_rec v.attempt.closed) i.0 q i.1)

  lets_go_either : (d : Option ℕ) → v.attempt.drawn ≡ d → Kept b record { words = ws; homes = s.homes; views = after }
  lets_go_either None e = lets_go_undrawn e
  lets_go_either (Some t) e = lets_go_drawn t e

  -- an unlock, by the records that are still held
  pub unlocks : Kept b record { words = ws; homes = s.homes; views = set s.views id (unlocked_with (without r v.attempt.held) v r) }
  unlocks = go (without r v.attempt.held) refl
    where
      gave_up : IsDecided w.attempt → ⊥
      gave_up d = true≢false (sym d.2.0)

      one : Kept b record { words = ws; homes = s.homes; views = after }
      one = lets_go_either v.attempt.drawn refl

      go : (hs : List Held) → without r v.attempt.held ≡ hs → Kept b record { words = ws; homes = s.homes; views = set s.views id (unlocked_with hs v r) }
      go [] e = twice b ws s id w (rested v) (rests_kept b record { words = ws; homes = s.homes; views = after } one id w (left_there s id v w at) e gave_up)
      go (x ∷ hs) e = one
