-- A closing store of a new word keeps the rule.
use Rattle.std.proofs.Common.{◌≡◌, ◌≢◌, ◌⊎◌, ℕ, ◌+◌, ◌*◌, ◌/◌, ◌<◌, ◌≤◌, true, List, [], ◌∷◌, ◌++◌, map, length, get_or, set, refl, sym, ap, ◌∙◌, subst, inr, ⊎_elim, arith, length-set, get_or-set_same, get_or-set_other}
use Rattle.std.specs.Prelude.{Some}
use mathlib.Core.Logic.{dite}
use mathlib.Core.Option.{some}
use native.Mathlib.Decide.{ℕ_discrete}
use lib.ListN.{get_elem?}
use Rattle.atomic_table.proofs.Lists.{at_longer, at_map, set_here}
use Rattle.rl_store.specs.declared.view.Held.{Held}
use Rattle.rl_store.specs.declared.view.Write.{Write}
use Rattle.rl_store.specs.declared.view.View.{View}
use Rattle.rl_store.specs.Entries.{In, Entry, RowOf, entries, drawn_entry, of_item, of_attempt, Decided, Stands, Holds, IsDecided, Locks, Installs}
use Rattle.rl_store.specs.Layout.{Opening, place, cell_place, Closes, HasCells}
use Rattle.rl_store.specs.Rule.{Shared}
use Rattle.rl_value.specs.Cells.{cells_of}
use Rattle.rl_store.proofs.Grouped.{Rec, Ent, Fits, Hand, Apart, Kept}
use Rattle.rl_store.proofs.Views.{each_set, pairs_set, put, take_back}
use Rattle.rl_store.proofs.Quiet.{sum_set}
use Rattle.rl_store.proofs.Turns.{Back, Forth, Same, ent_turns, rec_turns, fits_turns}
use Rattle.rl_store.proofs.Validates.{swap_back, swap_forth, swap_same, swap_sides, to_old, old_stands, m_stands}

-- what the new entry is to the old one, where r is closed with this row
pub record Closer (old m : Entry) (r : ℕ) (row : RowOf) : Type 0 where
  pub stamp : m.stamp ≡ old.stamp
  pub live : m.live ≡ true
  pub reads : m.reads ≡ old.reads
  pub decided : Decided m
  pub marks : (q : ℕ) → In q m.marks → In q old.marks
  pub kept : (x : Write) → In x old.closed → In x m.closed
  pub last : (x : Write) × In x m.closed × (x.rec ≡ r) × (x.row ≡ row)
  pub only : (x : Write) → In x m.closed → In x old.closed ⊎ (x.rec ≡ r)

module _ (b : Opening) (s : Shared) (h : Kept b s) (id : ℕ) (v : View) (at : get_elem? s.views id ≡ some v) (t : ℕ) (drawn : v.attempt.drawn ≡ Some t) (sure : Decided (of_attempt v.attempt t)) (y : Held) (held : In y v.attempt.held) (full : length y.stored ≡ 1 + b.columns y.rec) (row : RowOf) (is_row : cells_of (b.columns y.rec) row ≡ y.stored) where
  abbrev r : ℕ
  r = y.rec

  abbrev ws : List ℕ
  ws = set s.words (place r) (2 * t)

  abbrev items : List Entry
  items = map of_item v.items

  abbrev old : Entry
  old = of_attempt v.attempt t

  hand : Hand b s.words v y
  hand = (h.facts.each id v at).hands y held

  inside : r < b.records
  inside = hand.inside

  pub ev : entries v ≡ items ++ old ∷ []
  ev = ap (λ d. items ++ drawn_entry v.attempt d) drawn

  here : get_or ws (place r) 0 ≡ 2 * t
  here = get_or-set_same s.words (place r) (2 * t) 0 (let l = h.facts.wide in let i = inside in omega arith)

  pub word : (q : ℕ) → q ≢ r → get_or ws (place q) 0 ≡ get_or s.words (place q) 0
  word q ne = get_or-set_other s.words (place r) (place q) (2 * t) 0 (λ e. ne (let p : 1 + 6 * q ≡ 1 + 6 * r = e in omega arith))

  pub cell : (q k : ℕ) → k < (1 + b.columns q) → get_or ws (cell_place q k) 0 ≡ get_or s.words (cell_place q k) 0
  cell q k l = get_or-set_other s.words (place r) (cell_place q k) (2 * t) 0 (λ e. let p : 2 + (6 * q + k) ≡ 1 + 6 * r = e in let m = h.facts.narrow q in omega arith)

  zero_same : get_or ws 0 0 ≡ get_or s.words 0 0
  zero_same = get_or-set_other s.words (place r) 0 (2 * t) 0 (λ e. let p : 0 ≡ 1 + 6 * r = e in omega arith)

  pub up : get_or s.words 0 0 ≤ get_or ws 0 0
  up = let z = zero_same in omega arith

  half : get_or ws (place r) 0 / 2 ≡ t
  half = let z = here in omega arith

  early : get_or s.words (place r) 0 / 2 < t
  early = hand.later t drawn

  pub later : (q : ℕ) → q < b.records → get_or s.words (place q) 0 / 2 ≤ get_or ws (place q) 0 / 2
  later q l = dite (ℕ_discrete q r)
      (λ e. subst (λ (x : ℕ). get_or s.words (place x) 0 / 2 ≤ get_or ws (place x) 0 / 2) (sym e) (let a = half in let c = early in omega arith))
      (λ ne. let z = word q ne in omega arith)

  pub apart_r : (q : ℕ) → get_or s.words (place q) 0 / 2 ≡ get_or ws (place q) 0 / 2 → q ≢ r
  apart_r q z e = let a = half in let c = early in let d : get_or s.words (place r) 0 / 2 ≡ get_or ws (place r) 0 / 2 = subst (λ (x : ℕ). get_or s.words (place x) 0 / 2 ≡ get_or ws (place x) 0 / 2) e z in omega arith

  -- nobody else holds it
  alone : (j : ℕ) (u : View) → j ≢ id → get_elem? s.views j ≡ some u → Holds u r → ⊥
  alone j u ne e k = (h.facts.apart j id u v ne e at).records r k (y, held, refl)

  module _ (w : View) (m : Entry) (ew : entries w ≡ items ++ m ∷ []) (is : Closer old m r row) (gone : Holds w r → ⊥) (fewer : (q : ℕ) → Holds w q → Holds v q) (rest : (q : ℕ) → q ≢ r → Holds v q → Holds w q × IsDecided w.attempt)
      (draws : w.draws ≡ v.draws) (tries : w.tries ≡ v.tries) where
    abbrev after : List View
    after = set s.views id w

    mine : Stands s.views old
    mine = old_stands b s h id v w at items old m ev ew is.stamp

    closes_kept : (q : ℕ) (row : RowOf) → Closes old q row → Closes m q row
    closes_kept q cells c = (c.0, is.kept c.0 c.1, c.2, c.3)

    pub back : Back b (Stands s.views) (Stands after)
    back = swap_back b s h id v w at items old m ev ew is.stamp (λ l. sure.0) is.marks

    pub forth : Forth b (Stands s.views) (Stands after)
    forth = swap_forth b s h id v w at items old m ev ew is.stamp (λ d. is.decided) closes_kept

    same : (q : ℕ) → q ≢ r → Same b (Stands s.views) (Stands after) q
    same q ne = swap_same b s h id v w at items old m ev ew is.stamp q (λ cells d c. (sure, (c.0, ⊎_elim (λ i. i) (λ (e : c.0.rec ≡ r). absurd (ne (sym c.2 ∙ e))) (is.only c.0 c.1), c.2, c.3)))

    locks_to : (q : ℕ) → q ≢ r → Locks s.views q → Locks after q
    locks_to q ne x = put (λ u. Holds u q) s.views id v w at (λ k. (rest q ne k).0) x.0 x.1 x.2 x.3

    locks_from : (q : ℕ) → Locks after q → Locks s.views q
    locks_from q x = take_back (λ u. Holds u q) s.views id v w at (fewer q) x.0 x.1 x.2 x.3

    pub installs_to : (q : ℕ) → q ≢ r → Installs s.views q → Installs after q
    installs_to q ne x = let z = put (λ u. Holds u q × IsDecided u.attempt) s.views id v w at (λ p. rest q ne p.0) x.0 x.1 x.2 (x.3, x.4) in (z.0, z.1, z.2, z.3.0, z.3.1)

    free : Locks after r → ⊥
    free x = ⊎_elim
        (λ (q : (x.0 ≡ id) × (w ≡ x.1)). gone (subst (λ u. Holds u r) (sym q.1) x.3))
        (λ (q : (x.0 ≢ id) × (get_elem? s.views x.0 ≡ some x.1)). alone x.0 x.1 q.0 q.1 x.3)
        (Rattle.atomic_table.proofs.Lists.at_set s.views id x.0 w x.1 x.2)

    goes : (j : ℕ) (u : View) → j ≢ id → get_elem? s.views j ≡ some u → Fits b ws (Stands after) (Installs after) u
    goes j u ne e = fits_turns b (Stands s.views) (Stands after) back forth s.words ws up (Installs s.views) (Installs after) later (λ q l z n k i. cell q k i) (λ q z. installs_to q (apart_r q z)) u
        (λ q l k. dite (ℕ_discrete q r) (λ e'. absurd (alone j u ne e (subst (Holds u) e' k))) (λ ne'. (ap (λ x. x / 2) (word q ne'), λ i n. cell q i n)))
        (h.facts.each j u e)

    new_rec : Rec b ws (Stands after) (Locks after) (Installs after) r
    new_rec = record {
      locked = λ odd. absurd (let z = here in omega arith);
      locks = λ k. absurd (free k);
      row = row;
      version = inr (m, m_stands b s h id v w at items old m ev ew is.stamp, is.decided, is.stamp ∙ sym half, is.last);
      shown = λ _. subst (HasCells (b.columns r) ws r) (sym is_row) (full, λ k l. cell r k l ∙ hand.stored k (subst (λ n. k < n) (sym full) l));
      newest = λ f cells x d c. ⊎_elim
          (λ (o : Stands s.views f). let a = (h.facts.recs r inside).newest f cells o d c in let e = early in let z = half in omega arith)
          (λ (q : m ≡ f). let a : m.stamp ≡ f.stamp = ap (λ (g : Entry). g.stamp) q in let e = is.stamp in let z = half in omega arith)
          (to_old b s h id v w at items old m ev ew is.stamp f x);
      below = (let a = (h.facts.ents old mine).to in let z = zero_same in let e = half in omega arith);
    }

    own : Ent b ws (Stands after) m
    own = let e = ent_turns b (Stands s.views) (Stands after) back forth s.words ws up old mine (h.facts.ents old mine) in record {
      rows = λ x i. e.rows x (subst (In x) is.reads i);
      older = λ x i. subst (λ n. x.stamp < n) (sym is.stamp) (e.older x (subst (In x) is.reads i));
      valid = λ x i j f stands live other marks. let i' = subst (In x) is.reads i in
          subst (λ n. (f.stamp ≤ x.stamp) ⊎ (n < f.stamp)) (sym is.stamp) (e.valid x i' (sure.1 x i') f stands live (λ z. other (z ∙ sym is.stamp)) marks);
      from = subst (λ n. b.base + 2 ≤ n) (sym is.stamp) e.from;
      to = subst (λ n. n < b.base + get_or ws 0 0) (sym is.stamp) e.to;
    }

    pub closed : Fits b ws (Stands after) (Installs after) w → Kept b record { words = ws; homes = s.homes; views = after }
    closed fits = record {
      facts = record {
        wide = length-set s.words (place r) (2 * t) ∙ h.facts.wide;
        recs = λ q l. dite (ℕ_discrete q r)
            (λ e. subst (Rec b ws (Stands after) (Locks after) (Installs after)) (sym e) new_rec)
            (λ ne. rec_turns b (Stands s.views) (Stands after) back forth s.words ws up (Locks s.views) (Installs s.views) (Locks after) (Installs after) q (word q ne) (cell q) (locks_to q ne) (locks_from q) (installs_to q ne) (same q ne) (h.facts.recs q l));
        ents = λ e x. ⊎_elim
            (λ o. ent_turns b (Stands s.views) (Stands after) back forth s.words ws up e o (h.facts.ents e o))
            (λ (q : m ≡ e). subst (Ent b ws (Stands after)) q own)
            (to_old b s h id v w at items old m ev ew is.stamp e x);
        each = each_set (λ j u. Fits b ws (Stands after) (Installs after) u) s.views id w goes fits;
        apart = pairs_set Apart s.views id w h.facts.apart (swap_sides b s h id v w at items old m ev ew is.stamp fewer);
        opening = h.facts.opening;
        narrow = h.facts.narrow;
      };
      next = zero_same ∙ (h.next ∙ ap (λ n. 2 + n) (sym (sum_set b (λ u. u.draws) s.views id v w at draws)));
      whole = (let a = h.whole in let d = sum_set b (λ u. u.draws) s.views id v w at draws in let e = sum_set b (λ u. u.tries) s.views id v w at tries in omega arith);
      few = h.few;
    }
