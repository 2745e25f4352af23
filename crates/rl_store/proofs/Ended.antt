-- A closing store of a new word, whole: the attempt goes on, and with the last record it becomes an item.
use Rattle.std.proofs.Common.{◌≡◌, ◌≢◌, ◌⊎◌, ℕ, ◌+◌, ◌*◌, ◌/◌, ◌<◌, List, [], ◌∷◌, ◌++◌, map, length, get_or, set, refl, sym, ap, ◌∙◌, subst, inl, inr, ⊎_elim, arith, length-append}
use Rattle.std.specs.Prelude.{Some}
use mathlib.Core.Option.{some}
use lib.ListN.{get_elem?}
use Rattle.atomic_table.proofs.Lists.{at_longer, at_map}
use Rattle.rl_value.specs.Cells.{cells_of}
use Rattle.rl_store.specs.declared.view.Held.{Held}
use Rattle.rl_store.specs.declared.view.Write.{Write}
use Rattle.rl_store.specs.declared.view.View.{View}
use Rattle.rl_store.specs.Entries.{In, Entry, RowOf, entries, drawn_entry, of_item, of_attempt, held_rec, write_rec, Decided, Stands, Holds, IsDecided, Installs}
use Rattle.rl_store.specs.Layout.{Opening, place}
use Rattle.rl_store.specs.Rule.{Shared}
use Rattle.rl_store.specs.Views.{without, with_close, finished, closed_with}
use Rattle.rl_store.proofs.Grouped.{Fits, Kept}
use Rattle.rl_store.proofs.Views.{at_end}
use Rattle.rl_store.proofs.Loads.{Some≢None}
use Rattle.rl_store.proofs.Seating.{at_append, at_behind}
use Rattle.rl_store.proofs.Without.{stood, stays, once_without}
use Rattle.rl_store.proofs.Turns.{open_turns, counted_turns, hand_turns}
use Rattle.rl_store.proofs.Marks.{in_map}
use Rattle.rl_store.proofs.Validates.{swap_differ}
use Rattle.rl_store.proofs.Finishing.{finishes, twice, left_there}
use Rattle.rl_store.proofs.Closing.{Closer, closed, back, forth, installs_to, later, cell, word, up, apart_r}

module _ (v : View) (t : ℕ) (sure : Decided (of_attempt v.attempt t)) (y : Held) (held : In y v.attempt.held) (row : RowOf) where
  abbrev old : Entry
  old = of_attempt v.attempt t

  abbrev new : Write
  new = record { rec = y.rec; row = row }

  has_mark : In y.rec old.marks
  has_mark = (held.0, at_longer (map held_rec v.attempt.held) (map write_rec v.attempt.closed) held.0 y.rec (at_map held_rec v.attempt.held held.0 y held.1))

  behind_mark : (q : ℕ) → In q (map write_rec (v.attempt.closed ++ new ∷ [])) → In q old.marks
  behind_mark q i =
      let x = in_map write_rec (v.attempt.closed ++ new ∷ []) i.0 q i.1 in
      ⊎_elim
      (λ (p : get_elem? v.attempt.closed x.1.0 ≡ some x.0). (length (map held_rec v.attempt.held) + x.1.0, at_behind (map held_rec v.attempt.held) (map write_rec v.attempt.closed) x.1.0 q (subst (λ n. get_elem? (map write_rec v.attempt.closed) x.1.0 ≡ some n) x.2 (at_map write_rec v.attempt.closed x.1.0 x.0 p))))
      (λ (p : (x.1.0 ≡ length v.attempt.closed) × (new ≡ x.0)). subst (λ n. In n old.marks) (ap write_rec p.1 ∙ x.2) has_mark)
      (at_end v.attempt.closed new x.0 x.1.0 x.1.1)

  kept : (x : Write) → In x v.attempt.closed → In x (v.attempt.closed ++ new ∷ [])
  kept x i = (i.0, at_longer v.attempt.closed (new ∷ []) i.0 x i.1)

  last : (x : Write) × In x (v.attempt.closed ++ new ∷ []) × (x.rec ≡ y.rec) × (x.row ≡ row)
  last = (new, (length v.attempt.closed + 0, at_behind v.attempt.closed (new ∷ []) 0 new refl), refl, refl)

  only : (x : Write) → In x (v.attempt.closed ++ new ∷ []) → In x v.attempt.closed ⊎ (x.rec ≡ y.rec)
  only x i = ⊎_elim (λ p. inl (i.0, p)) (λ (p : (i.0 ≡ length v.attempt.closed) × (new ≡ x)). inr (sym (ap write_rec p.1))) (at_end v.attempt.closed new x i.0 i.1)

  pub closer_on : Closer old (of_attempt (with_close v y.rec row).attempt t) y.rec row
  closer_on = record {
    stamp = refl;
    live = sure.0;
    reads = refl;
    decided = sure;
    marks = λ q i. ⊎_elim
        (λ (p : get_elem? (map held_rec (without y.rec v.attempt.held)) i.0 ≡ some q).
        let x = in_map held_rec (without y.rec v.attempt.held) i.0 q p in
        let k = stood y.rec v.attempt.held x.1.0 x.0 x.1.1 in
        (k.0, at_longer (map held_rec v.attempt.held) (map write_rec v.attempt.closed) k.0 q (subst (λ n. get_elem? (map held_rec v.attempt.held) k.0 ≡ some n) x.2 (at_map held_rec v.attempt.held k.0 x.0 k.1))))
        (λ (p : (k : ℕ) × (i.0 ≡ length (map held_rec (without y.rec v.attempt.held)) + k) × (get_elem? (map write_rec (v.attempt.closed ++ new ∷ [])) k ≡ some q)). behind_mark q (p.0, p.2))
        (at_append (map held_rec (without y.rec v.attempt.held)) (map write_rec (v.attempt.closed ++ new ∷ [])) i.0 q i.1);
    kept = kept;
    last = last;
    only = only;
  }

module _ (b : Opening) (s : Shared) (h : Kept b s) (id : ℕ) (v : View) (at : get_elem? s.views id ≡ some v) (t : ℕ) (drawn : v.attempt.drawn ≡ Some t) (sure : Decided (of_attempt v.attempt t)) (y : Held) (held : In y v.attempt.held) (full : length y.stored ≡ 1 + b.columns y.rec) (row : RowOf) (is_row : cells_of (b.columns y.rec) row ≡ y.stored) where
  abbrev r : ℕ
  r = y.rec

  abbrev ws : List ℕ
  ws = set s.words (place r) (2 * t)

  -- it goes on
  pub goes_on : Kept b record { words = ws; homes = s.homes; views = set s.views id (with_close v r row) }
  goes_on = closed b s h id v at t drawn sure y held full row is_row w m ew is gone fewer rest refl refl fits
    where
      w : View
      w = with_close v r row

      m : Entry
      m = of_attempt w.attempt t

      ew : entries w ≡ map of_item v.items ++ m ∷ []
      ew = ap (λ d. map of_item v.items ++ drawn_entry w.attempt d) drawn

      is : Closer (of_attempt v.attempt t) m r row
      is = closer_on v t sure y held row

      gone : Holds w r → ⊥
      gone x = let z = stood r v.attempt.held x.1.0 x.0 x.1.1 in z.2 x.2

      fewer : (q : ℕ) → Holds w q → Holds v q
      fewer q x = let z = stood r v.attempt.held x.1.0 x.0 x.1.1 in (x.0, (z.0, z.1), x.2)

      sure_w : IsDecided w.attempt
      sure_w = (t, drawn, sure)

      rest : (q : ℕ) → q ≢ r → Holds v q → Holds w q × IsDecided w.attempt
      rest q ne x = ((x.0, stays r v.attempt.held x.1.0 x.0 x.1.1 (λ e. ne (sym x.2 ∙ e)), x.2), sure_w)

      fits : Fits b ws (Stands (set s.views id w)) (Installs (set s.views id w)) w
      fits =
          let f = h.facts.each id v at in
          let bk = back b s h id v at t drawn sure y held full row is_row w m ew is gone fewer rest refl refl in
          let fo = forth b s h id v at t drawn sure y held full row is_row w m ew is gone fewer rest refl refl in
          let lt = later b s h id v at t drawn sure y held full row is_row in
          let ce = (λ (q : ℕ) (l : q < b.records) (z : get_or s.words (place q) 0 / 2 ≡ get_or ws (place q) 0 / 2) (n : Installs (set s.views id w) q → ⊥) (k : ℕ) (i : k < (1 + b.columns q)). cell b s h id v at t drawn sure y held full row is_row q k i) in
          let ins = (λ (q : ℕ) (z : get_or s.words (place q) 0 / 2 ≡ get_or ws (place q) 0 / 2). installs_to b s h id v at t drawn sure y held full row is_row w m ew is gone fewer rest refl refl q (apart_r b s h id v at t drawn sure y held full row is_row q z)) in
          record {
            opened = λ x e. open_turns b (Stands s.views) (Stands (set s.views id w)) bk fo s.words ws (up b s h id v at t drawn sure y held full row is_row) (Installs s.views) (Installs (set s.views id w)) lt ce ins x (f.opened x e);
            counted = λ x i. counted_turns b (Stands s.views) (Stands (set s.views id w)) bk fo s.words ws (up b s h id v at t drawn sure y held full row is_row) (Installs s.views) (Installs (set s.views id w)) lt ce ins x (f.counted x i);
            alone = f.alone;
            hands = λ x i. let z = stood r v.attempt.held i.0 x i.1 in
                let g = hand_turns b (Stands s.views) (Stands (set s.views id w)) bk fo s.words ws (up b s h id v at t drawn sure y held full row is_row) (Installs s.views) (Installs (set s.views id w)) lt ce ins v x (ap (λ n. n / 2) (word b s h id v at t drawn sure y held full row is_row x.rec z.2)) (λ k l. cell b s h id v at t drawn sure y held full row is_row x.rec k l) (f.hands x (z.0, z.1)) in
                record { inside = g.inside; old = g.old; short = g.short; stored = g.stored; early = λ _. sure_w; later = g.later };
            once = once_without r v.attempt.held f.once;
            undrawn = λ e. absurd (Some≢None t (sym drawn ∙ e));
            unclosed = λ x i. sure_w;
            differ = swap_differ b s h id v w at (map of_item v.items) (of_attempt v.attempt t) m (ap (λ d. map of_item v.items ++ drawn_entry v.attempt d) drawn) ew refl f.differ;
            drew = (let a = f.drew in let p = ap length (ap (λ d. map of_item v.items ++ drawn_entry v.attempt d) drawn) ∙ length-append (map of_item v.items) (of_attempt v.attempt t ∷ []) in let q = ap length ew ∙ length-append (map of_item v.items) (m ∷ []) in omega arith);
          }

  -- a closing store of a new word, by the records that are still held
  pub closes : Kept b record { words = ws; homes = s.homes; views = set s.views id (closed_with (without r v.attempt.held) v t r row) }
  closes = go (without r v.attempt.held) refl
    where
      w : View
      w = with_close v r row

      go : (hs : List Held) → without r v.attempt.held ≡ hs → Kept b record { words = ws; homes = s.homes; views = set s.views id (closed_with hs v t r row) }
      go [] e = twice b ws s id w (finished w t) (finishes b record { words = ws; homes = s.homes; views = set s.views id w } goes_on id w (left_there s id v w at) t drawn sure e)
      go (x ∷ hs) e = goes_on
