-- A validation keeps the rule: part 7.
use Rattle.std.proofs.Common.{◌≡◌, ◌≢◌, ◌⊎◌, ℕ, ◌+◌, ◌/◌, ◌≤◌, true, List, [], ◌∷◌, ◌++◌, map, length, get_or, set, refl, sym, ap, ◌∙◌, subst, inl, inr, ⊎_elim, arith, length-append, le_refl}
use Rattle.std.specs.Prelude.{Some}
use mathlib.Core.Option.{some, some-injective}
use lib.ListN.{get_elem?}
use Rattle.atomic_table.proofs.Lists.{at_longer, set_here}
use Rattle.rl_store.specs.declared.view.Read.{Read}
use Rattle.rl_store.specs.declared.view.View.{View}
use Rattle.rl_store.specs.Entries.{In, Entry, RowOf, entries, drawn_entry, of_item, of_attempt, held_rec, write_rec, Decided, Stands, Holds, IsDecided, Locks, Installs}
use Rattle.rl_store.specs.Layout.{Opening, place, Closes}
use Rattle.rl_store.specs.Rule.{Shared}
use Rattle.rl_store.proofs.Grouped.{Ent, Fits, Apart, Kept}
use Rattle.rl_store.specs.Views.{with_valid}
use Rattle.rl_store.proofs.Views.{at_below, at_end, each_set, pairs_set, put, take_back}
use Rattle.rl_store.proofs.Quiet.{sum_set}
use Rattle.rl_store.proofs.Loads.{Some≢None, Some-injective}
use Rattle.rl_store.proofs.Seating.{at_append, at_behind}
use Rattle.rl_store.proofs.Ending.{item_decided}
use Rattle.rl_store.proofs.Marks.{in_map, drawn_case}
use Rattle.rl_store.proofs.Turns.{Back, Forth, Same, ent_turns, rec_turns, fits_turns}

module _ (b : Opening) (s : Shared) (h : Kept b s) where
  -- what has a mark on a record holds it, or is decided and has closed it
  abbrev pub Marked : Entry → ℕ → Type 0
  Marked f r =
      ((j : ℕ) × (u : View) × (get_elem? s.views j ≡ some u) × Holds u r × ((t : ℕ) × (u.attempt.drawn ≡ Some t) × (of_attempt u.attempt t ≡ f)))
      ⊎ (Decided f × ((row : RowOf) × Closes f r row))

  pub marked : (f : Entry) (r : ℕ) → Stands s.views f → In r f.marks → Marked f r
  marked f r x i = ⊎_elim
      (λ (p : get_elem? (map of_item x.1.items) x.3.0 ≡ some f).
      let y = in_map of_item x.1.items x.3.0 f p in
      let z = subst (λ (g : Entry). In r g.marks) (sym y.2) i in
      let q = in_map write_rec y.0.writes z.0 r z.1 in
      inr (subst (λ g. Decided g × ((row : RowOf) × Closes g r row)) y.2 (item_decided y.0, (q.0.row, (q.0, q.1, q.2, refl)))))
      (λ (p : (k : ℕ) × (x.3.0 ≡ length (map of_item x.1.items) + k) × (get_elem? (drawn_entry x.1.attempt x.1.attempt.drawn) k ≡ some f)).
      let y = drawn_case x.1.attempt x.1.attempt.drawn p.0 f p.2 in
      let z = subst (λ (g : Entry). In r g.marks) (sym y.2) i in
      ⊎_elim
      (λ (q : get_elem? (map held_rec x.1.attempt.held) z.0 ≡ some r). let k = in_map held_rec x.1.attempt.held z.0 r q in inl (x.0, x.1, x.2, (k.0, k.1, k.2), y))
      (λ (q : (k : ℕ) × (z.0 ≡ length (map held_rec x.1.attempt.held) + k) × (get_elem? (map write_rec x.1.attempt.closed) k ≡ some r)).
      let k = in_map write_rec x.1.attempt.closed q.0 r q.2 in
      let d = (h.facts.each x.0 x.1 x.2).unclosed k.0 k.1 in
      let same : of_attempt x.1.attempt d.0 ≡ f = ap (of_attempt x.1.attempt) (Some-injective _ _ (sym d.1 ∙ y.1)) ∙ y.2 in
      inr (subst (λ g. Decided g × ((row : RowOf) × Closes g r row)) same (d.2, (k.0.row, (k.0, k.1, k.2, refl)))))
      (at_append (map held_rec x.1.attempt.held) (map write_rec x.1.attempt.closed) z.0 r z.1))
      (at_append (map of_item x.1.items) (drawn_entry x.1.attempt x.1.attempt.drawn) x.3.0 f x.3.1)

  -- the own entry becomes another, at the same place
  module _ (id : ℕ) (v w : View) (at : get_elem? s.views id ≡ some v) (items : List Entry) (old m : Entry) (ev : entries v ≡ items ++ old ∷ []) (ew : entries w ≡ items ++ m ∷ []) (stamp : m.stamp ≡ old.stamp) where
    abbrev views : List View
    views = set s.views id w

    pub part_w : (e : Entry) → In e (entries w) → In e (entries v) ⊎ (m ≡ e)
    part_w e i = ⊎_elim
        (λ (x : get_elem? items i.0 ≡ some e). inl (i.0, subst (λ l. get_elem? l i.0 ≡ some e) (sym ev) (at_longer items (old ∷ []) i.0 e x)))
        (λ (x : (i.0 ≡ length items) × (m ≡ e)). inr x.1)
        (at_end items m e i.0 (subst (λ l. get_elem? l i.0 ≡ some e) ew i.1))

    pub part_v : (e : Entry) → In e (entries v) → In e (entries w) ⊎ (old ≡ e)
    part_v e i = ⊎_elim
        (λ (x : get_elem? items i.0 ≡ some e). inl (i.0, subst (λ l. get_elem? l i.0 ≡ some e) (sym ew) (at_longer items (m ∷ []) i.0 e x)))
        (λ (x : (i.0 ≡ length items) × (old ≡ e)). inr x.1)
        (at_end items old e i.0 (subst (λ l. get_elem? l i.0 ≡ some e) ev i.1))

    old_at : get_elem? (entries v) (length items + 0) ≡ some old
    old_at = subst (λ l. get_elem? l (length items + 0) ≡ some old) (sym ev) (at_behind items (old ∷ []) 0 old refl)

    pub old_stands : Stands s.views old
    old_stands = (id, v, at, (length items + 0, old_at))

    pub m_stands : Stands views m
    m_stands = (id, w, set_here s.views id w (at_below s.views v id at), (length items + 0, subst (λ l. get_elem? l (length items + 0) ≡ some m) (sym ew) (at_behind items (m ∷ []) 0 m refl)))

    pub to_old : (e : Entry) → Stands views e → Stands s.views e ⊎ (m ≡ e)
    to_old e x =
        let y = take_back (λ u. In e (entries u) ⊎ (m ≡ e)) s.views id v w at (λ i. ⊎_elim (λ k. part_w e k) (λ z. inr z) i) x.0 x.1 x.2 (inl x.3) in
        ⊎_elim (λ i. inl (y.0, y.1, y.2, i)) (λ z. inr z) y.3

    pub to_new : (e : Entry) → Stands s.views e → Stands views e ⊎ (old ≡ e)
    to_new e x =
        let y = put (λ u. In e (entries u) ⊎ (old ≡ e)) s.views id v w at (λ i. ⊎_elim (λ k. part_v e k) (λ z. inr z) i) x.0 x.1 x.2 (inl x.3) in
        ⊎_elim (λ i. inl (y.0, y.1, y.2, i)) (λ z. inr z) y.3

    pub swap_back : (m.live ≡ true → old.live ≡ true) → ((r : ℕ) → In r m.marks → In r old.marks) → Back b (Stands s.views) (Stands views)
    swap_back live marks f x = inl (⊎_elim
        (λ y. (f, y, refl, (λ l. l), (λ r i. i)))
        (λ (y : m ≡ f). (old, old_stands, sym stamp ∙ ap (λ (g : Entry). g.stamp) y, (λ l. live (ap (λ (g : Entry). g.live) y ∙ l)), (λ r i. marks r (subst (λ (g : Entry). In r g.marks) (sym y) i))))
        (to_old f x))

    pub swap_forth : (Decided old → Decided m) → ((r : ℕ) (row : RowOf) → Closes old r row → Closes m r row) → Forth b (Stands s.views) (Stands views)
    swap_forth decide closes e x d = ⊎_elim
        (λ y. (e, y, d, refl, (λ r cells c. c)))
        (λ (y : old ≡ e). (m, m_stands, decide (subst Decided (sym y) d), stamp ∙ ap (λ (g : Entry). g.stamp) y, (λ r cells c. closes r cells (subst (λ g. Closes g r cells) (sym y) c))))
        (to_new e x)

    pub swap_same : (r : ℕ) → ((row : RowOf) → Decided m → Closes m r row → Decided old × Closes old r row) → Same b (Stands s.views) (Stands views) r
    swap_same r closer f cells x d c = ⊎_elim
        (λ y. (f, y, d, refl, c))
        (λ (y : m ≡ f). let z = closer cells (subst Decided (sym y) d) (subst (λ g. Closes g r cells) (sym y) c) in (old, old_stands, z.0, sym stamp ∙ ap (λ (g : Entry). g.stamp) y, z.1))
        (to_old f x)

    pub swap_sides : ((r : ℕ) → Holds w r → Holds v r) → (j : ℕ) (u : View) → j ≢ id → get_elem? s.views j ≡ some u → Apart w u × Apart u w
    swap_sides held j u p e =
        let a = h.facts.apart id j v u (λ z. p (sym z)) at e in
        let c = h.facts.apart j id u v p e at in
        let own : In old (entries v) = (length items + 0, old_at) in (
          record { records = λ r k l. a.records r (held r k) l; stamps = λ x y i k z. ⊎_elim (λ l. a.stamps x y l k z) (λ (q : m ≡ x). a.stamps old y own k (sym stamp ∙ (ap (λ (g : Entry). g.stamp) q ∙ z))) (part_w x i) },
          record { records = λ r l k. c.records r l (held r k); stamps = λ x y i k z. ⊎_elim (λ l. c.stamps x y i l z) (λ (q : m ≡ y). c.stamps x old i own (z ∙ sym (sym stamp ∙ ap (λ (g : Entry). g.stamp) q))) (part_w y k) },
        )

    pub swap_differ : ((e f : Entry) (i j : ℕ) → get_elem? (entries v) i ≡ some e → get_elem? (entries v) j ≡ some f → e.stamp ≡ f.stamp → i ≡ j) → (e f : Entry) (i j : ℕ) → get_elem? (entries w) i ≡ some e → get_elem? (entries w) j ≡ some f → e.stamp ≡ f.stamp → i ≡ j
    swap_differ d e f i j p q z = let x = as_old e i p in let y = as_old f j q in d x.0 y.0 i j x.1 y.1 (x.2 ∙ (z ∙ sym y.2))
      where
        as_old : (e : Entry) (i : ℕ) → get_elem? (entries w) i ≡ some e → (o : Entry) × (get_elem? (entries v) i ≡ some o) × (o.stamp ≡ e.stamp)
        as_old e i p = ⊎_elim
            (λ (x : get_elem? items i ≡ some e). (e, subst (λ l. get_elem? l i ≡ some e) (sym ev) (at_longer items (old ∷ []) i e x), refl))
            (λ (x : (i ≡ length items) × (m ≡ e)). (old, subst (λ k. get_elem? (entries v) k ≡ some old) (let z : length items + 0 ≡ i = (let y = x.0 in omega arith) in z) old_at, sym stamp ∙ ap (λ (g : Entry). g.stamp) x.1))
            (at_end items m e i (subst (λ l. get_elem? l i ≡ some e) ew p))

  -- the read is validated: the stamp is the one seen, and nobody else holds the record
  module _ (id : ℕ) (v : View) (at : get_elem? s.views id ≡ some v) (t : ℕ) (drawn : v.attempt.drawn ≡ Some t) (x : Read) (read : In x v.attempt.reads)
      (seen : get_or s.words (place x.rec) 0 / 2 ≡ x.stamp) (mine : (j : ℕ) (u : View) → get_elem? s.views j ≡ some u → Holds u x.rec → j ≡ id) where
    abbrev w : View
    w = with_valid v x.rec

    abbrev items : List Entry
    items = map of_item v.items

    abbrev old : Entry
    old = of_attempt v.attempt t

    abbrev m : Entry
    m = of_attempt w.attempt t

    ev : entries v ≡ items ++ old ∷ []
    ev = ap (λ d. items ++ drawn_entry v.attempt d) drawn

    ew : entries w ≡ items ++ m ∷ []
    ew = ap (λ d. items ++ drawn_entry w.attempt d) drawn

    abbrev after : List View
    after = set s.views id w

    decide : Decided old → Decided m
    decide d = (d.0, λ y i. let k = d.1 y i in (k.0, at_longer v.attempt.validated (x.rec ∷ []) k.0 y.rec k.1))

    settle : IsDecided v.attempt → IsDecided w.attempt
    settle d = (d.0, d.1, (d.2.0, λ y i. let k = d.2.1 y i in (k.0, at_longer v.attempt.validated (x.rec ∷ []) k.0 y.rec k.1)))

    was_decided : IsDecided v.attempt → Decided old
    was_decided d = subst (λ n. Decided (of_attempt v.attempt n)) (Some-injective _ _ (sym d.1 ∙ drawn)) d.2

    back : Back b (Stands s.views) (Stands after)
    back = swap_back id v w at items old m ev ew refl (λ l. l) (λ r i. i)

    forth : Forth b (Stands s.views) (Stands after)
    forth = swap_forth id v w at items old m ev ew refl decide (λ r cells c. c)

    same : (r : ℕ) → Same b (Stands s.views) (Stands after) r
    same r = swap_same id v w at items old m ev ew refl r (λ cells d c. (was_decided ((h.facts.each id v at).unclosed c.0 c.1), c))

    installs_to : (q : ℕ) → Installs s.views q → Installs after q
    installs_to q y = let z = put (λ u. Holds u q × IsDecided u.attempt) s.views id v w at (λ p. (p.0, settle p.1)) y.0 y.1 y.2 (y.3, y.4) in (z.0, z.1, z.2, z.3.0, z.3.1)

    locks_to : (q : ℕ) → Locks s.views q → Locks after q
    locks_to q y = put (λ u. Holds u q) s.views id v w at (λ k. k) y.0 y.1 y.2 y.3

    locks_from : (q : ℕ) → Locks after q → Locks s.views q
    locks_from q y = take_back (λ u. Holds u q) s.views id v w at (λ k. k) y.0 y.1 y.2 y.3

    goes : (j : ℕ) (u : View) → get_elem? s.views j ≡ some u → Fits b s.words (Stands after) (Installs after) u
    goes j u e = fits_turns b (Stands s.views) (Stands after) back forth s.words s.words (le_refl _) (Installs s.views) (Installs after) (λ q l. le_refl _) (λ q l z n k i. refl) (λ q _. installs_to q) u (λ q l k. (refl, λ i n. refl)) (h.facts.each j u e)

    fits : Fits b s.words (Stands after) (Installs after) w
    fits = let f = goes id v at in record {
      opened = f.opened;
      counted = f.counted;
      alone = f.alone;
      hands = λ y i. let k = f.hands y i in record { inside = k.inside; old = k.old; short = k.short; stored = k.stored; early = λ l. settle (k.early l); later = k.later };
      once = f.once;
      undrawn = λ e. absurd (Some≢None t (sym drawn ∙ e));
      unclosed = λ y i. settle (f.unclosed y i);
      differ = swap_differ id v w at items old m ev ew refl f.differ;
      drew = (let a = f.drew in let p = ap length ev ∙ length-append items (old ∷ []) in let q = ap length ew ∙ length-append items (m ∷ []) in omega arith);
    }

    own : Ent b s.words (Stands after) m
    own = let e = ent_turns b (Stands s.views) (Stands after) back forth s.words s.words (le_refl _) old (old_stands id v w at items old m ev ew refl) (h.facts.ents old (old_stands id v w at items old m ev ew refl)) in record {
      rows = e.rows;
      older = e.older;
      valid = λ y i j f stands live other marks. ⊎_elim
          (λ (k : get_elem? v.attempt.validated j.0 ≡ some y.rec). e.valid y i (j.0, k) f stands live other marks)
          (λ (k : (j.0 ≡ length v.attempt.validated) × (x.rec ≡ y.rec)).
          let z : x ≡ y = (h.facts.each id v at).alone x y read i k.1 in
          inl (subst (λ (u : Read). f.stamp ≤ u.stamp) z (newest f stands other (subst (λ (n : ℕ). In n f.marks) (sym k.1) marks))))
          (at_end v.attempt.validated x.rec y.rec j.0 j.1);
      from = e.from;
      to = e.to;
    }
      where
        newest : (f : Entry) → Stands after f → f.stamp ≢ t → In x.rec f.marks → f.stamp ≤ x.stamp
        newest f stands other marks = ⊎_elim
            (λ (o : Stands s.views f). ⊎_elim
            (λ (k : (j : ℕ) × (u : View) × (get_elem? s.views j ≡ some u) × Holds u x.rec × ((n : ℕ) × (u.attempt.drawn ≡ Some n) × (of_attempt u.attempt n ≡ f))).
            let here = mine k.0 k.1 k.2 k.3 in
            let u_is_v : k.1 ≡ v = some-injective _ _ (sym k.2 ∙ (ap (get_elem? s.views) here ∙ at)) in
            let n_is_t : k.4.0 ≡ t = Some-injective _ _ (sym k.4.1 ∙ (ap (λ (u : View). u.attempt.drawn) u_is_v ∙ drawn)) in
            absurd (other (sym (ap (λ (g : Entry). g.stamp) k.4.2) ∙ n_is_t)))
            (λ (k : Decided f × ((row : RowOf) × Closes f x.rec row)). subst (λ n. f.stamp ≤ n) seen ((h.facts.recs x.rec ((h.facts.each id v at).counted x read).2).newest f k.1.0 o k.0 k.1.1))
            (marked f x.rec o marks))
            (λ (q : m ≡ f). absurd (other (sym (ap (λ (g : Entry). g.stamp) q))))
            (to_old id v w at items old m ev ew refl f stands)

    pub validates : Kept b record { words = s.words; homes = s.homes; views = after }
    validates = record {
      facts = record {
        wide = h.facts.wide;
        recs = λ q l. rec_turns b (Stands s.views) (Stands after) back forth s.words s.words (le_refl _) (Locks s.views) (Installs s.views) (Locks after) (Installs after) q refl (λ k _. refl) (locks_to q) (locks_from q) (installs_to q) (same q) (h.facts.recs q l);
        ents = λ e y. ⊎_elim
            (λ o. ent_turns b (Stands s.views) (Stands after) back forth s.words s.words (le_refl _) e o (h.facts.ents e o))
            (λ (q : m ≡ e). subst (Ent b s.words (Stands after)) q own)
            (to_old id v w at items old m ev ew refl e y);
        each = each_set (λ j u. Fits b s.words (Stands after) (Installs after) u) s.views id w (λ j u _ e. goes j u e) fits;
        apart = pairs_set Apart s.views id w h.facts.apart (swap_sides id v w at items old m ev ew refl (λ r k. k));
        opening = h.facts.opening;
        narrow = h.facts.narrow;
      };
      next = h.next ∙ ap (λ n. 2 + n) (sym (sum_set b (λ u. u.draws) s.views id v w at refl));
      whole = (let a = h.whole in let d = sum_set b (λ u. u.draws) s.views id v w at refl in let e = sum_set b (λ u. u.tries) s.views id v w at refl in omega arith);
      few = h.few;
    }
