-- Each step keeps the rule.
use Rattle.std.proofs.Common.{◌≡◌, ◌≢◌, ◌⊎◌, ℕ, zero, suc, ◌+◌, ◌*◌, ◌/◌, ◌%◌, ◌<◌, ◌≤◌, List, [], ◌∷◌, ◌++◌, length, get_or, set, refl, sym, ap, ◌∙◌, subst, inl, inr, ⊎_elim, Contains, arith, length-append, length-set, get_or-set_same, get_or-set_other, le_refl}
use Rattle.std.specs.Prelude.{Some, None, bit_or}
use mathlib.Core.Logic.{dite}
use mathlib.Core.Option.{some, none, some-ne-none, some-injective}
use native.Mathlib.Decide.{ℕ_discrete}
use lib.ListN.{get_elem?}
use lib.Seq.{set-get_or}
use Rattle.atomic_table.specs.Table.{step, keeps, Allows, Splits, Joins, opening}
use Rattle.atomic_table.proofs.Lists.{at_set, set_again, set_here, set_else}
use Rattle.rl_value.specs.Cells.{cells_of, row_of}
use Rattle.rl_shared_replay.specs.declared.view.Version.{Version}
use Rattle.rl_shared_replay.specs.declared.view.Seen.{Seen}
use Rattle.rl_shared_replay.specs.declared.view.Held.{Held}
use Rattle.rl_shared_replay.specs.declared.view.View.{View}
use Rattle.rl_shared_replay.specs.Layout.{RowOf, place, cell_place, stamp_at, Shows}
use Rattle.rl_shared_replay.specs.Rule.{Shared, OfSome, Plan, RecordFits, HoldFits, ViewFits, ReplayRule}
use Rattle.rl_shared_replay.specs.Views.{Holds, Stores, blank, with_seen, with_hold, with_cell, let_go, renewed, joined}
use Rattle.rl_shared_replay.specs.Steps.{Mine, Load, Lock, ColumnStore, Close}
use Rattle.rl_shared_replay.proofs.Views.{at_below, each_snoc, pairs_snoc, some_set, some_back, some_longer, some_shorter}
use Rattle.rl_shared_replay.proofs.Lists.{has_front, has_back, has_split, has_none, has_more, has_last, more_cells}
use Rattle.rl_shared_replay.proofs.Bits.{set_locked, set_free}
use Rattle.rl_shared_replay.proofs.Moving.{Same, same_shows, Carries, record_stays, fits_stays, changes}

pub Some≢None : {X : Type 0} (x : X) → Some x ≡ None → ⊥
Some≢None x e = absurd cc

pub Some-injective : {X : Type 0} (x y : X) → Some x ≡ Some y → x ≡ y
Some-injective x y e = cc

module _ (p : Plan) where
  -- what a view loses and keeps where another is put in its place
  pub carries : (vs : List View) (id : ℕ) (v w : View) (r : ℕ) → get_elem? vs id ≡ some v → (Holds v r → Holds w r) → (Holds w r → Holds v r) → (Stores v r → Stores w r) → ((x : Version) → Contains v.made x → Contains w.made x) → Carries p vs (set vs id w) r
  carries vs id v w r at to back stores made = record {
    holds = some_set (λ u. Holds u r) vs id v w at to;
    back = some_back (λ u. Holds u r) vs id v w at back;
    stores = some_set (λ u. Stores u r) vs id v w at stores;
    made = λ x. some_set (λ u. Contains u.made x) vs id v w at (made x);
  }

  pub same_words : (ws : List ℕ) (r : ℕ) → Same p ws ws r
  same_words ws r = record { word = refl; cell = λ k l. refl }

  -- a step that changes no word, and of the view only what it has made and seen
  pub watches : (s : Shared) → ReplayRule p s → (id : ℕ) (v w : View) → get_elem? s.views id ≡ some v → w.held ≡ v.held → ((x : Version) → Contains v.made x → Contains w.made x) → ((x : Version) → Contains w.made x → Contains p.versions x)
      → ((y : Seen) → Contains w.seen y → y.stamp ≤ stamp_at s.words y.rec) → ReplayRule p record { words = s.words; homes = s.homes; views = set s.views id w }
  watches s h id v w at held made planned seen = changes p s h s.words id w h.wide
      (λ r l. record_stays p s.words s.words s.views (set s.views id w) r (same_words s.words r)
      (carries s.views id v w r at (λ k. (k.0, held ∙ k.1, k.2)) (λ k. (k.0, sym held ∙ k.1, k.2)) (λ k. (k.0, held ∙ k.1, k.2, k.3)) made) (h.records r l))
      (λ j u ne e. h.fits j u e)
      record { planned = planned; seen = seen; held = λ g e. (h.fits id v at).held g (sym held ∙ e) }
      (λ j u ne e r k m. h.apart j id u v ne e at r k (m.0, sym held ∙ m.1, m.2))

  -- ---- load ----
  pub loads : (slots id : ℕ) (me : Mine) (r : ℕ) → Allows (ReplayRule p) slots id me (place r) (λ n. n) (Load (step slots (place r) 0 0 none) me)
  loads slots id me r s h _ at _ =
      let n = get_or s.words (place r) 0 in
      let f = h.fits id me.0 at in
      let w = with_seen me.0 r (n / 2) in
      let kept = watches s h id me.0 w at refl (λ x c. c) f.planned
      (λ y c. ⊎_elim (λ (o : Contains me.0.seen y). f.seen y o) (λ (e : y ≡ record { rec = r; stamp = n / 2 }). subst (λ (z : Seen). z.stamp ≤ stamp_at s.words z.rec) (sym e) (le_refl _)) (has_more me.0.seen _ y c)) in (
        w,
        keeps,
        tt,
        subst (λ (ws : List ℕ). ReplayRule p record { words = ws; homes = s.homes; views = set s.views id w }) (sym (set-get_or s.words (place r) 0)) kept,
        (λ q e. ap (λ x. (with_seen me.0 x (n / 2), me.1)) (let z : 1 + 6 * r ≡ 1 + 6 * q = e in omega arith)),
      )

  -- ---- lock ----
  module _ (s : Shared) (h : ReplayRule p s) (id : ℕ) (v : View) (at : get_elem? s.views id ≡ some v) (r : ℕ) (inside : r < p.records) (free : v.held ≡ None) (even : get_or s.words (place r) 0 % 2 ≡ 0) where
    abbrev n : ℕ
    n = get_or s.words (place r) 0

    abbrev us : List ℕ
    us = set s.words (place r) (n + 1)

    abbrev w : View
    w = with_hold v r (n / 2)

    here : get_or us (place r) 0 ≡ n + 1
    here = get_or-set_same s.words (place r) (n + 1) 0 (let l = h.wide in omega arith)

    word : (q : ℕ) → q ≢ r → get_or us (place q) 0 ≡ get_or s.words (place q) 0
    word q ne = get_or-set_other s.words (place r) (place q) (n + 1) 0 (λ e. ne (let z : 1 + 6 * q ≡ 1 + 6 * r = e in omega arith))

    cell : (q k : ℕ) → k < 1 + p.columns q → get_or us (cell_place q k) 0 ≡ get_or s.words (cell_place q k) 0
    cell q k l = get_or-set_other s.words (place r) (cell_place q k) (n + 1) 0 (λ e. let z : 2 + (6 * q + k) ≡ 1 + 6 * r = e in let m = h.narrow q in omega arith)

    stamp : (q : ℕ) → stamp_at us q ≡ stamp_at s.words q
    stamp q = dite (ℕ_discrete q r) (λ e. subst (λ x. get_or us (place x) 0 / 2 ≡ get_or s.words (place x) 0 / 2) (sym e) (let x = here in omega arith)) (λ ne. ap (λ x. x / 2) (word q ne))

    -- nobody holds it
    nobody : (j : ℕ) (u : View) → get_elem? s.views j ≡ some u → Holds u r → ⊥
    nobody j u e k = let odd = (h.records r inside).locked (j, u, e, k) in absurd (omega arith)

    idle : (q : ℕ) → Holds v q → ⊥
    idle q k = Some≢None k.0 (sym k.1 ∙ free)

    record_of : (q : ℕ) → q < p.records → RecordFits p us (set s.views id w) q
    record_of q l = dite (ℕ_discrete q r) (λ e. subst (RecordFits p us (set s.views id w)) (sym e) own) (λ ne. others ne)
      where
        own : RecordFits p us (set s.views id w) r
        own = let o = h.records r inside in record {
          held = λ _. (id, w, set_here s.views id w (at_below s.views v id at), (record { rec = r; old = n / 2; stored = [] }, refl, refl));
          locked = λ _. (let x = here in omega arith);
          row = o.row;
          version = ⊎_elim
              (λ a. inl (stamp r ∙ a.0, a.1))
              (λ b. inr (b.0, some_set (λ u. Contains u.made b.0) s.views id v w at (λ c. c) b.1, b.2, b.3 ∙ sym (stamp r), b.4))
              o.version;
          shown = λ _. let z = o.shown (λ k. nobody k.0 k.1 k.2 (k.3.0, k.3.1, k.3.2)) in (z.0, λ k m. cell r k m ∙ z.1 k m);
        }

        others : q ≢ r → RecordFits p us (set s.views id w) q
        others ne = record_stays p s.words us s.views (set s.views id w) q record { word = word q ne; cell = λ k m. cell q k m }
            (carries s.views id v w q at (λ k. absurd (idle q k)) (λ k. absurd (ne (sym k.2 ∙ ap (λ (x : Held). x.rec) (sym (Some-injective _ _ k.1))))) (λ k. absurd (idle q (k.0, k.1, k.2))) (λ x c. c))
            (h.records q l)

    mine : ViewFits p us w
    mine = let f = h.fits id v at in record {
      planned = f.planned;
      seen = λ y c. let a = f.seen y c in let b = stamp y.rec in omega arith;
      held = λ g e. subst (HoldFits p us) (Some-injective (record { rec = r; old = n / 2; stored = [] }) g e) record {
        inside = inside;
        old = sym (stamp r);
        few = omega arith;
        stand = λ k l. absurd (omega arith);
        stored = λ l. absurd (omega arith);
      };
    }

    locked : ReplayRule p record { words = us; homes = s.homes; views = set s.views id w }
    locked = changes p s h us id w (length-set s.words (place r) (n + 1) ∙ h.wide) record_of
        (λ j u ne e. fits_stays p s.words us u (λ q. (let z = stamp q in omega arith))
        (λ g k. record { word = word g.rec (λ m. nobody j u e (g, k, m)); cell = λ i l. cell g.rec i l }) (h.fits j u e))
        mine
        (λ j u ne e q k m. nobody j u e (subst (Holds u) (sym m.2 ∙ ap (λ (x : Held). x.rec) (sym (Some-injective _ _ m.1))) k))

  pub locks : (slots id : ℕ) (me : Mine) (r : ℕ) → r < p.records → me.0.held ≡ None → Allows (ReplayRule p) slots id me (place r) (λ n. bit_or n 1) (Lock (step slots (place r) 1 0 none) me)
  locks slots id me r inside free s h _ at _ = let n = get_or s.words (place r) 0 in dite (ℕ_discrete (n % 2) 1)
      (λ odd.
      let same : set s.words (place r) (bit_or n 1) ≡ s.words = ap (set s.words (place r)) (set_locked n odd) ∙ set-get_or s.words (place r) 0 in (
        me.0,
        keeps,
        tt,
        subst (λ (t : List ℕ × List View). ReplayRule p record { words = t.0; homes = s.homes; views = t.1 }) (λ i. (sym same i, sym (set_again s.views id me.0 at) i)) h,
        (λ q e. ((λ _. refl), (λ even. absurd (omega arith)))),
      ))
      (λ ne. let even : n % 2 ≡ 0 = omega arith in (
        with_hold me.0 r (n / 2),
        keeps,
        tt,
        subst (λ (x : ℕ). ReplayRule p record { words = set s.words (place r) x; homes = s.homes; views = set s.views id (with_hold me.0 r (n / 2)) }) (sym (set_free n even)) (locked s h id me.0 at r inside free even),
        (λ q e. ((λ odd. absurd (omega arith)), (λ _. ap (λ x. (with_hold me.0 x (n / 2), me.1)) (let z : 1 + 6 * r ≡ 1 + 6 * q = e in omega arith)))),
      ))
