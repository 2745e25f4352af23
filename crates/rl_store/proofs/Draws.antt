-- A draw keeps the rule.
use Rattle.std.proofs.Common.{◌≡◌, ◌≢◌, ◌⊎◌, ℕ, ◌+◌, ◌*◌, ◌/◌, ◌%◌, ◌^◌, ◌<◌, ◌≤◌, List, [], ◌∷◌, map, length, get_or, set, refl, sym, ap, ◌∙◌, subst, inl, inr, ⊎_elim, arith, length-append, length-set, get_or-set_same, get_or-set_other}
use Rattle.std.specs.Prelude.{None}
use Rattle.std.proofs.Math.Nat.{mod-eq_of_lt}
use mathlib.Core.Option.{some, none}
use lib.ListN.{get_elem?}
use Rattle.atomic_table.specs.Table.{step, keeps, Allows}
use Rattle.atomic_table.proofs.Lists.{at_longer, set_here}
use Rattle.rl_store.specs.declared.view.View.{View}
use Rattle.rl_store.specs.Entries.{In, Entry, RowOf, entries, of_item, of_attempt, Stands, Holds, IsDecided, Locks, Installs}
use Rattle.rl_store.specs.Layout.{Opening, place, cell_place, Closes}
use Rattle.rl_store.specs.Rule.{Shared}
use Rattle.rl_store.proofs.Grouped.{Ent, Fits, Apart, Kept}
use Rattle.rl_store.specs.Views.{with_draw, settled}
use Rattle.rl_store.specs.Steps.{Mine, Draw}
use Rattle.rl_store.proofs.Views.{at_below, at_end, each_set, pairs_set, put, take_back, sum_put}
use Rattle.rl_store.proofs.Loads.{Some≢None, nowhere}
use Rattle.rl_store.proofs.Seating.{append_none, at_behind}
use Rattle.rl_store.proofs.Turns.{Back, Forth, Same, ent_turns, rec_turns, fits_turns, version_turns}
use Rattle.rl_store.proofs.Locking.{undrawn_entries, undecided}
use Rattle.rl_store.proofs.Finishing.{settles}

module _ (b : Opening) (s : Shared) (h : Kept b s) (id : ℕ) (v : View) (at : get_elem? s.views id ≡ some v) (drawn : v.attempt.drawn ≡ None) (some_left : 0 < v.tries) where
  abbrev n : ℕ
  n = get_or s.words 0 0

  abbrev t : ℕ
  t = b.base + n

  abbrev ws : List ℕ
  ws = set s.words 0 (n + 1)

  abbrev w : View
  w = with_draw v t

  abbrev views : List View
  views = set s.views id w

  abbrev new : Entry
  new = of_attempt w.attempt t

  abbrev items : List Entry
  items = map of_item v.items

  old_items : entries v ≡ items
  old_items = undrawn_entries v drawn ∙ append_none items

  here : get_or ws 0 0 ≡ n + 1
  here = get_or-set_same s.words 0 (n + 1) 0 (let l = h.facts.wide in omega arith)

  word : (q : ℕ) → get_or ws (place q) 0 ≡ get_or s.words (place q) 0
  word q = get_or-set_other s.words 0 (place q) (n + 1) 0 (λ e. let p : 1 + 6 * q ≡ 0 = e in omega arith)

  cell : (q k : ℕ) → get_or ws (cell_place q k) 0 ≡ get_or s.words (cell_place q k) 0
  cell q k = get_or-set_other s.words 0 (cell_place q k) (n + 1) 0 (λ e. let p : 2 + (6 * q + k) ≡ 0 = e in omega arith)

  up : get_or s.words 0 0 ≤ get_or ws 0 0
  up = let z = here in omega arith

  in_new : In new (entries w)
  in_new = (length items + 0, at_behind items (new ∷ []) 0 new refl)

  keep_entry : (e : Entry) → In e (entries v) → In e (entries w)
  keep_entry e i = (i.0, at_longer items (new ∷ []) i.0 e (subst (λ l. get_elem? l i.0 ≡ some e) old_items i.1))

  part : (e : Entry) → In e (entries w) → In e (entries v) ⊎ (new ≡ e)
  part e i = ⊎_elim
      (λ (x : get_elem? items i.0 ≡ some e). inl (i.0, subst (λ l. get_elem? l i.0 ≡ some e) (sym old_items) x))
      (λ (x : (i.0 ≡ length items) × (new ≡ e)). inr x.1)
      (at_end items new e i.0 i.1)

  to_new : (e : Entry) → Stands s.views e → Stands views e
  to_new e x = put (λ u. In e (entries u)) s.views id v w at (keep_entry e) x.0 x.1 x.2 x.3

  new_stands : Stands views new
  new_stands = (id, w, set_here s.views id w (at_below s.views v id at), in_new)

  to_old : (e : Entry) → Stands views e → Stands s.views e ⊎ (new ≡ e)
  to_old e x = ⊎_elim (λ y. y) (λ y. y) (from x)
    where
      from : Stands views e → (Stands s.views e ⊎ (new ≡ e)) ⊎ (Stands s.views e ⊎ (new ≡ e))
      from x = let y = take_back (λ u. In e (entries u) ⊎ (new ≡ e)) s.views id v w at (λ i. ⊎_elim (λ k. part e k) (λ z. inr z) i) x.0 x.1 x.2 (inl x.3) in
          inl (⊎_elim (λ i. inl (y.0, y.1, y.2, i)) (λ z. inr z) y.3)

  below_new : (e : Entry) → Stands s.views e → e.stamp < t
  below_new e x = (h.facts.ents e x).to

  back : Back b (Stands s.views) (Stands views)
  back f x = ⊎_elim
      (λ y. inl (f, y, refl, (λ l. l), (λ r i. i)))
      (λ (y : new ≡ f). inr (λ e z. subst (λ (g : Entry). e.stamp < g.stamp) y (below_new e z)))
      (to_old f x)

  forth : Forth b (Stands s.views) (Stands views)
  forth e x d = (e, to_new e x, d, refl, (λ r cells c. c))

  -- the new entry has closed nothing
  no_close : (r : ℕ) (row : RowOf) → Closes new r row → ⊥
  no_close r row c = undecided v drawn ((h.facts.each id v at).unclosed c.0 c.1)

  same : (r : ℕ) → Same b (Stands s.views) (Stands views) r
  same r f cells x d c = ⊎_elim
      (λ y. (f, y, d, refl, c))
      (λ (y : new ≡ f). absurd (no_close r cells (subst (λ g. Closes g r cells) (sym y) c)))
      (to_old f x)

  locks_to : (q : ℕ) → Locks s.views q → Locks views q
  locks_to q x = put (λ u. Holds u q) s.views id v w at (λ k. k) x.0 x.1 x.2 x.3

  locks_from : (q : ℕ) → Locks views q → Locks s.views q
  locks_from q x = take_back (λ u. Holds u q) s.views id v w at (λ k. k) x.0 x.1 x.2 x.3

  installs_to : (q : ℕ) → Installs s.views q → Installs views q
  installs_to q x = let y = put (λ u. Holds u q × IsDecided u.attempt) s.views id v w at (λ p. absurd (undecided v drawn p.1)) x.0 x.1 x.2 (x.3, x.4) in (y.0, y.1, y.2, y.3.0, y.3.1)

  goes : (j : ℕ) (u : View) → get_elem? s.views j ≡ some u → Fits b ws (Stands views) (Installs views) u
  goes j u e = fits_turns b (Stands s.views) (Stands views) back forth s.words ws up (Installs s.views) (Installs views)
      (λ q l. (let z = word q in omega arith))
      (λ q l z m k i. cell q k)
      (λ q _. installs_to q)
      u
      (λ q l k. (ap (λ x. x / 2) (word q), λ i m. cell q i))
      (h.facts.each j u e)

  mine : Fits b ws (Stands views) (Installs views) w
  mine = let f = goes id v at in let g = h.facts.each id v at in record {
    opened = f.opened;
    counted = f.counted;
    alone = f.alone;
    hands = λ y i. let k = f.hands y i in record {
      inside = k.inside;
      old = k.old;
      short = k.short;
      stored = k.stored;
      early = λ l. absurd (undecided v drawn (k.early l));
      later = λ t' e. let z : t ≡ t' = cc in subst (λ m. get_or ws (place y.rec) 0 / 2 < m) z (let l = (h.facts.recs y.rec k.inside).below in let p = word y.rec in omega arith);
    };
    once = f.once;
    undrawn = λ e. absurd (Some≢None t e);
    unclosed = λ y i. absurd (undecided v drawn (f.unclosed y i));
    differ = λ e g' i j p q z. ⊎_elim
        (λ (x : get_elem? items i ≡ some e). ⊎_elim
        (λ (y : get_elem? items j ≡ some g'). g.differ e g' i j (subst (λ l. get_elem? l i ≡ some e) (sym old_items) x) (subst (λ l. get_elem? l j ≡ some g') (sym old_items) y) z)
        (λ (y : (j ≡ length items) × (new ≡ g')). absurd (let l = below_new e (id, v, at, (i, subst (λ l. get_elem? l i ≡ some e) (sym old_items) x)) in let m : t ≡ g'.stamp = ap (λ (x : Entry). x.stamp) y.1 in omega arith))
        (at_end items new g' j q))
        (λ (x : (i ≡ length items) × (new ≡ e)). ⊎_elim
        (λ (y : get_elem? items j ≡ some g'). absurd (let l = below_new g' (id, v, at, (j, subst (λ l. get_elem? l j ≡ some g') (sym old_items) y)) in let m : t ≡ e.stamp = ap (λ (x : Entry). x.stamp) x.1 in omega arith))
        (λ (y : (j ≡ length items) × (new ≡ g')). x.0 ∙ sym y.0)
        (at_end items new g' j q))
        (at_end items new e i p);
    drew = (let a = g.drew in let l = length-append items (new ∷ []) in let m = ap length old_items in omega arith);
  }

  new_ent : Ent b ws (Stands views) new
  new_ent = let g = h.facts.each id v at in record {
    rows = λ x i. version_turns b (Stands s.views) (Stands views) back forth x.rec x.stamp x.row (g.counted x i).0;
    older = λ x i. (let c = g.counted x i in let l = (h.facts.recs x.rec c.2).below in let m = c.1 in omega arith);
    valid = λ x i j. absurd (nowhere x.rec v.attempt.validated (g.undrawn drawn) j);
    from = (let a = h.next in omega arith);
    to = (let z = here in omega arith);
  }

  sides : (j : ℕ) (u : View) → j ≢ id → get_elem? s.views j ≡ some u → Apart w u × Apart u w
  sides j u p e =
      let a = h.facts.apart id j v u (λ z. p (sym z)) at e in
      let c = h.facts.apart j id u v p e at in (
        record {
          records = a.records;
          stamps = λ x y i k z. ⊎_elim
              (λ l. a.stamps x y l k z)
              (λ (m : new ≡ x). let l = below_new y (j, u, e, k) in let o : t ≡ x.stamp = ap (λ (x : Entry). x.stamp) m in omega arith)
              (part x i);
        },
        record {
          records = c.records;
          stamps = λ x y i k z. ⊎_elim
              (λ l. c.stamps x y i l z)
              (λ (m : new ≡ y). let l = below_new x (j, u, e, i) in let o : t ≡ y.stamp = ap (λ (x : Entry). x.stamp) m in omega arith)
              (part y k);
        },
      )

  pub draws : Kept b record { words = ws; homes = s.homes; views = views }
  draws = record {
    facts = record {
      wide = length-set s.words 0 (n + 1) ∙ h.facts.wide;
      recs = λ q l. rec_turns b (Stands s.views) (Stands views) back forth s.words ws up (Locks s.views) (Installs s.views) (Locks views) (Installs views) q (word q) (λ k _. cell q k) (locks_to q) (locks_from q) (installs_to q) (same q) (h.facts.recs q l);
      ents = λ e x. ⊎_elim
          (λ y. ent_turns b (Stands s.views) (Stands views) back forth s.words ws up e y (h.facts.ents e y))
          (λ (y : new ≡ e). subst (Ent b ws (Stands views)) y new_ent)
          (to_old e x);
      each = each_set (λ j u. Fits b ws (Stands views) (Installs views) u) s.views id w (λ j u _ e. goes j u e) mine;
      apart = pairs_set Apart s.views id w h.facts.apart sides;
      opening = h.facts.opening;
      narrow = h.facts.narrow;
    };
    next = here ∙ (let a = h.next in let d = sum_put (λ u. u.draws) s.views id v w at in omega arith);
    whole = (let a = h.whole in let d = sum_put (λ u. u.draws) s.views id v w at in let e = sum_put (λ u. u.tries) s.views id v w at in omega arith);
    few = h.few;
  }

  pub small : (n + 1) % 2 ^ 64 ≡ n + 1
  small = let a = h.next in let c = h.whole in let f = h.few in mod-eq_of_lt (omega arith)

pub gets : (b : Opening) (base slots id : ℕ) (me : Mine) → base ≡ b.base → me.0.attempt.drawn ≡ None → 0 < me.0.tries → Allows (Kept b) slots id me 0 (λ n. (n + 1) % 2 ^ 64) (Draw base (step slots 0 1 0 none) me)
gets b base slots id me e drawn left s h _ at _ =
    let n = get_or s.words 0 0 in
    let w = with_draw me.0 (b.base + n) in (
      settled w,
      keeps,
      tt,
      subst (λ m. Kept b record { words = set s.words 0 m; homes = s.homes; views = set s.views id (settled w) }) (sym (small b s h id me.0 at drawn left)) (settles b (set s.words 0 (n + 1)) s id me.0 w at (draws b s h id me.0 at drawn left)),
      (
        ap (λ k. (settled (with_draw me.0 (k + n)), me.1)) (sym e),
        (let a = h.next in omega arith),
        (let a = h.next in let c = h.whole in let f = h.few in let d = sum_put (λ u. u.tries) s.views id me.0 w at in omega arith),
        (λ x i. let l = (h.facts.ents x (id, me.0, at, i)).to in omega arith),
      ),
    )
