-- Stores, splits and joins are allowed under the rule, and it holds at the start.
use Rattle.std.proofs.Common.{◌≡◌, ◌≢◌, ◌⊎◌, ℕ, zero, suc, ◌+◌, ◌*◌, ◌/◌, ◌%◌, ◌<◌, ◌≤◌, List, [], ◌∷◌, ◌++◌, length, get_or, set, refl, sym, ap, ◌∙◌, subst, inl, inr, ⊎_elim, Contains, arith, length-append, le_refl}
use Rattle.std.specs.Prelude.{Some, None}
use mathlib.Core.Option.{some, none, some-ne-none, some-injective}
use mathlib.Core.Logic.{dite}
use native.Mathlib.Decide.{ℕ_discrete}
use lib.ListN.{get_elem?}
use Rattle.atomic_table.specs.Table.{step, keeps, Allows, Splits, Joins, opening}
use Rattle.atomic_table.proofs.Lists.{at_set, set_again, set_here, set_else}
use Rattle.rl_value.specs.Cells.{cells_of, row_of}
use Rattle.rl_shared_replay.specs.declared.view.Version.{Version}
use Rattle.rl_shared_replay.specs.declared.view.Seen.{Seen}
use Rattle.rl_shared_replay.specs.declared.view.Held.{Held}
use Rattle.rl_shared_replay.specs.declared.view.View.{View}
use Rattle.rl_shared_replay.specs.Layout.{RowOf, place, cell_place, stamp_at, Shows}
use Rattle.rl_shared_replay.specs.Rule.{Shared, OfSome, Plan, RecordFits, ViewFits, ReplayRule}
use Rattle.rl_shared_replay.specs.Views.{Holds, Stores, blank, with_cell, let_go, renewed, joined}
use Rattle.rl_shared_replay.specs.Steps.{Mine, ColumnStore, Close}
use Rattle.rl_shared_replay.proofs.Views.{at_below, each_snoc, pairs_snoc, some_set, some_back, some_longer, some_shorter}
use Rattle.rl_shared_replay.proofs.Lists.{has_front, has_back, has_split, has_none, has_more, has_last}
use Rattle.rl_shared_replay.proofs.Moving.{Same, Carries, record_stays, changes, made_moves}
use Rattle.rl_shared_replay.proofs.Keeping.{Some≢None, Some-injective, carries, same_words, watches}
use Rattle.rl_shared_replay.proofs.Storing.{row_back, same_cells, stored, closes, stamped, unlocked, nobody, cell_kept, fit, mine_is, alone}

module _ (p : Plan) where
  -- ---- column store ----
  pub stores : (slots id : ℕ) (me : Mine) (h : Held) (i value : ℕ) → me.0.held ≡ Some h → i ≡ cell_place h.rec (length h.stored) → length h.stored < 1 + p.columns h.rec
      → (x : Version) → Contains p.versions x → x.rec ≡ h.rec → h.old < x.stamp
      → ((k : ℕ) → k < length (h.stored ++ value ∷ []) → get_or (h.stored ++ value ∷ []) k 0 ≡ get_or (cells_of (p.columns h.rec) x.row) k 0)
      → Allows (ReplayRule p) slots id me i (λ _. value) (λ _. ColumnStore (step slots i value 0 none) me value)
  stores slots id me h i value is at_place more x planned its above cells s rule _ at _ = (
    with_cell me.0 h value,
    keeps,
    tt,
    subst (λ (j : ℕ). ReplayRule p record { words = set s.words j value; homes = s.homes; views = set s.views id (with_cell me.0 h value) }) (sym at_place) (stored p s rule id me.0 at h is value more x planned its above cells),
    λ g e. ap (λ (y : Held). (with_cell me.0 y value, me.1)) (Some-injective h g (sym is ∙ e)),
  )

  -- ---- closing store of the old word ----
  pub closes_old : (slots id : ℕ) (me : Mine) (h : Held) (value : ℕ) → me.0.held ≡ Some h → h.stored ≡ [] → value ≡ 2 * h.old
      → Allows (ReplayRule p) slots id me (place h.rec) (λ _. value) (λ _. Close (step slots (place h.rec) value 0 none) me value)
  closes_old slots id me h value is none_stored its s rule _ at _ =
      let f = rule.fits id me.0 at in
      let w = let_go me.0 h in
      let half : value / 2 ≡ h.old = omega arith in
      let seen : (y : Seen) → Contains w.seen y → Contains me.0.seen y ⊎ ((y.rec ≡ h.rec) × (y.stamp ≡ value / 2)) =
      (λ y c. ⊎_elim (λ o. inl o) (λ e. inr (ap (λ (z : Seen). z.rec) e, ap (λ (z : Seen). z.stamp) e ∙ sym half)) (has_more me.0.seen _ y c)) in
      let even : value % 2 ≡ 0 = omega arith in
      let up : h.old ≤ value / 2 = omega arith in
      let o = rule.records h.rec (fit p s rule id me.0 at h is).inside in
      let same : stamp_at (set s.words (place h.rec) value) h.rec ≡ stamp_at s.words h.rec = stamped p s rule id me.0 at h is value w refl even up (λ x c. c) f.planned seen ∙ (half ∙ (fit p s rule id me.0 at h is).old) in
      let own : RecordFits p (set s.words (place h.rec) value) (set s.views id w) h.rec = record {
        held = λ odd. absurd (unlocked p s rule id me.0 at h is value w refl even up (λ x c. c) f.planned seen odd);
        locked = λ k. absurd (nobody p s rule id me.0 at h is value w refl even up (λ x c. c) f.planned seen k);
        row = o.row;
        version = ⊎_elim
            (λ a. inl (same ∙ a.0, a.1))
            (λ b. inr (b.0, some_set (λ u. Contains u.made b.0) s.views id me.0 w at (λ c. c) b.1, b.2, b.3 ∙ sym same, b.4))
            o.version;
        shown = λ _. let z = o.shown (λ k. begun k) in (z.0, λ k m. cell_kept p s rule id me.0 at h is value w refl even up (λ x c. c) f.planned seen h.rec k m ∙ z.1 k m);
      } in (
        w,
        keeps,
        tt,
        closes p s rule id me.0 at h is value w refl even up (λ x c. c) f.planned seen own,
        λ g e. let same_hold = Some-injective h g (sym is ∙ e) in (
          (λ _. ap (λ (y : Held). (let_go me.0 y, me.1)) same_hold),
          (λ stamp v l. absurd (let z = ap (λ (y : Held). y.old) same_hold in omega arith)),
        ),
      )
    where
      begun : OfSome (λ u. Stores u h.rec) s.views → ⊥
      begun k = dite (ℕ_discrete k.0 id)
          (λ e. let mine : k.3.0 ≡ h = Some-injective _ _ (sym k.3.1 ∙ (ap (λ (u : View). u.held) (some-injective _ _ (sym k.2 ∙ (ap (get_elem? s.views) e ∙ at))) ∙ is)) in
          (let z = k.3.3 in let y = ap (λ (g : Held). length g.stored) mine in let q = ap length none_stored in omega arith))
          (λ ne. alone p s rule id me.0 at h is k.0 k.1 ne k.2 (k.3.0, k.3.1, k.3.2))

  -- ---- closing store of a new word ----
  pub closes_new : (slots id : ℕ) (me : Mine) (h : Held) (value : ℕ) (x : Version) → me.0.held ≡ Some h → Contains p.versions x → x.rec ≡ h.rec → h.old < x.stamp → value ≡ 2 * x.stamp
      → length h.stored ≡ 1 + p.columns h.rec → h.stored ≡ cells_of (p.columns h.rec) x.row
      → Allows (ReplayRule p) slots id me (place h.rec) (λ _. value) (λ _. Close (step slots (place h.rec) value 0 none) me value)
  closes_new slots id me h value x is planned its above val full cells s rule _ at _ =
      let f = rule.fits id me.0 at in
      let w = renewed me.0 h x.stamp in
      let half : value / 2 ≡ x.stamp = omega arith in
      let row : row_of h.stored ≡ x.row = ap row_of cells ∙ row_back (p.columns h.rec) x.row in
      let new : Version = record { rec = h.rec; stamp = x.stamp; row = row_of h.stored } in
      let is_x : x ≡ new = (λ i. record { rec = its i; stamp = x.stamp; row = sym row i }) in
      let seen : (y : Seen) → Contains w.seen y → Contains me.0.seen y ⊎ ((y.rec ≡ h.rec) × (y.stamp ≡ value / 2)) =
      (λ y c. ⊎_elim (λ o. inl o) (λ e. inr (ap (λ (z : Seen). z.rec) e, ap (λ (z : Seen). z.stamp) e ∙ sym half)) (has_more me.0.seen _ y c)) in
      let even : value % 2 ≡ 0 = omega arith in
      let up : h.old ≤ value / 2 = omega arith in
      let made : (y : Version) → Contains me.0.made y → Contains w.made y = (λ y c. has_front me.0.made _ y c) in
      let plans : (y : Version) → Contains w.made y → Contains p.versions y = (λ y c. ⊎_elim (λ o. f.planned y o) (λ e. subst (Contains p.versions) (is_x ∙ sym e) planned) (has_more me.0.made _ y c)) in
      let g = fit p s rule id me.0 at h is in
      let same : stamp_at (set s.words (place h.rec) value) h.rec ≡ x.stamp = stamped p s rule id me.0 at h is value w refl even up made plans seen ∙ half in
      let own : RecordFits p (set s.words (place h.rec) value) (set s.views id w) h.rec = record {
        held = λ odd. absurd (unlocked p s rule id me.0 at h is value w refl even up made plans seen odd);
        locked = λ k. absurd (nobody p s rule id me.0 at h is value w refl even up made plans seen k);
        row = x.row;
        version = inr (new, (id, w, set_here s.views id w (at_below s.views me.0 id at), has_last me.0.made new), refl, sym same, row);
        shown = λ _. (ap length (sym cells) ∙ full, λ k m. cell_kept p s rule id me.0 at h is value w refl even up made plans seen h.rec k m ∙ (g.stand k (let l = full in omega arith) ∙ ap (λ (l : List ℕ). get_or l k 0) cells));
      } in (
        w,
        keeps,
        tt,
        closes p s rule id me.0 at h is value w refl even up made plans seen own,
        λ g e. let same_hold = Some-injective h g (sym is ∙ e) in (
          (λ v. absurd (let z = ap (λ (y : Held). y.old) same_hold in omega arith)),
          (λ stamp v l. λ i. (renewed me.0 (same_hold i) ((let z : x.stamp ≡ stamp = omega arith in z) i), me.1)),
        ),
      )

  -- ---- split ----
  pub splits : (id : ℕ) (v : View) → Splits (ReplayRule p) id v v blank
  splits id v s h at =
      let again = set_again s.views id v at in
      let idle : (q : ℕ) → Holds blank q → ⊥ = (λ q k. Some≢None k.0 (sym k.1)) in
      subst (λ (l : List View). ReplayRule p record { words = s.words; homes = s.homes; views = l ++ blank ∷ [] }) (sym again) record {
        wide = h.wide;
        narrow = h.narrow;
        records = λ r l. record_stays p s.words s.words s.views (s.views ++ blank ∷ []) r (same_words p s.words r) record {
          holds = some_longer (λ u. Holds u r) s.views blank;
          back = some_shorter (λ u. Holds u r) s.views blank (idle r);
          stores = some_longer (λ u. Stores u r) s.views blank;
          made = λ x. some_longer (λ u. Contains u.made x) s.views blank;
        } (h.records r l);
        fits = each_snoc (ViewFits p s.words) s.views blank h.fits record {
          planned = λ x c. absurd (has_none x c);
          seen = λ y c. absurd (has_none y c);
          held = λ g e. absurd (Some≢None g (sym e));
        };
        apart = pairs_snoc (λ a b. (r : ℕ) → Holds a r → Holds b r → ⊥) s.views blank h.apart (λ j u e. ((λ r k m. idle r k), (λ r k m. idle r m)));
      }

  -- ---- join ----
  pub joins : (id : ℕ) (v : View) (other : ℕ) (w : View) → w.held ≡ None → Joins (ReplayRule p) id v other w (joined v w) blank
  joins id v other w free s h at apart there =
      let x = joined v w in
      let f = h.fits id v at in
      let theirs : get_elem? s.views other ≡ some w = ⊎_elim (λ (t : (other ≡ id) × (x ≡ w)). absurd (apart t.0)) (λ (t : (other ≢ id) × (get_elem? s.views other ≡ some w)). t.1) (at_set s.views id other x w there) in
      let g = h.fits other w theirs in
      let one : ReplayRule p record { words = s.words; homes = s.homes; views = set s.views id x } = watches p s h id v x at refl
      (λ y c. has_front v.made w.made y c)
      (λ y c. ⊎_elim (λ o. f.planned y o) (λ n. g.planned y n) (has_split v.made w.made y c))
      (λ y c. ⊎_elim (λ o. f.seen y o) (λ n. g.seen y n) (has_split v.seen w.seen y c)) in
      let vs = set s.views id x in
      let idle : (q : ℕ) → Holds blank q → ⊥ = (λ q k. Some≢None k.0 (sym k.1)) in
      let mine : get_elem? (set vs other blank) id ≡ some x = set_else vs other id blank (λ e. apart (sym e)) ∙ set_here s.views id x (at_below s.views v id at) in
      changes p record { words = s.words; homes = s.homes; views = vs } one s.words other blank h.wide
      (λ r l. record_stays p s.words s.words vs (set vs other blank) r (same_words p s.words r) record {
        holds = some_set (λ u. Holds u r) vs other w blank there (λ k. absurd (Some≢None k.0 (sym k.1 ∙ free)));
        back = some_back (λ u. Holds u r) vs other w blank there (λ k. absurd (idle r k));
        stores = some_set (λ u. Stores u r) vs other w blank there (λ k. absurd (Some≢None k.0 (sym k.1 ∙ free)));
        made = λ y o. dite (ℕ_discrete o.0 other)
            (λ e. (id, x, mine, has_back v.made w.made y (subst (λ (u : View). Contains u.made y) (some-injective _ _ (sym o.2 ∙ (ap (get_elem? vs) e ∙ there))) o.3)))
            (λ ne. (o.0, o.1, set_else vs other o.0 blank ne ∙ o.2, o.3));
      } (one.records r l))
      (λ j u _ e. one.fits j u e)
      record { planned = λ y c. absurd (has_none y c); seen = λ y c. absurd (has_none y c); held = λ k e. absurd (Some≢None k (sym e)) }
      (λ j u _ e r k m. idle r m)

  -- ---- the start ----
  pub opens : length p.opening ≡ 1 + 6 * p.records → ((r : ℕ) → p.columns r ≤ 4) → ((r : ℕ) → r < p.records → get_or p.opening (place r) 0 ≡ 0)
      → ((r : ℕ) → r < p.records → (row : RowOf) × Shows (p.columns r) p.opening r row) → ReplayRule p (opening p.opening [] blank)
  opens wide narrow free rows = record {
    wide = wide;
    narrow = narrow;
    records = λ r l. let z = free r l in record {
      held = λ odd. absurd (omega arith);
      locked = λ k. absurd (none_held k.0 k.1 k.2 r k.3);
      row = (rows r l).0;
      version = inl ((let y : get_or p.opening (place r) 0 / 2 ≡ 0 = omega arith in y), (rows r l).1);
      shown = λ _. (rows r l).1;
    };
    fits = λ id v at. subst (ViewFits p p.opening) (sym (only id v at)) record {
      planned = λ x c. absurd (has_none x c);
      seen = λ y c. absurd (has_none y c);
      held = λ g e. absurd (Some≢None g (sym e));
    };
    apart = λ i j v w ne a b r k m. none_held i v a r k;
  }
    where
      only : (id : ℕ) (v : View) → get_elem? (blank ∷ []) id ≡ some v → v ≡ blank
      only zero v at = sym (some-injective _ _ at)
      only (suc id) v at = absurd (some-ne-none v (sym at))

      none_held : (id : ℕ) (v : View) → get_elem? (blank ∷ []) id ≡ some v → (r : ℕ) → Holds v r → ⊥
      none_held id v at r k = Some≢None k.0 (sym k.1 ∙ ap (λ (u : View). u.held) (only id v at))
