-- Column stores and closing stores keep the rule.
use Rattle.std.proofs.Common.{◌≡◌, ◌≢◌, ◌⊎◌, ℕ, zero, suc, ◌+◌, ◌*◌, ◌/◌, ◌%◌, ◌<◌, ◌≤◌, List, [], ◌∷◌, ◌++◌, length, get_or, set, refl, sym, ap, ◌∙◌, subst, inl, inr, ⊎_elim, Contains, arith, length-append, length-set, get_or-set_same, get_or-set_other, le_refl}
use Rattle.std.specs.Prelude.{Some, None}
use mathlib.Core.Logic.{dite}
use mathlib.Core.Option.{some, none}
use native.Mathlib.Decide.{ℕ_discrete}
use lib.ListN.{get_elem?}
use Rattle.atomic_table.specs.Table.{step, keeps, Allows}
use Rattle.atomic_table.proofs.Lists.{at_set, set_here}
use Rattle.rl_value.specs.Cells.{cells_of, row_of}
use Rattle.rl_shared_replay.specs.declared.view.Version.{Version}
use Rattle.rl_shared_replay.specs.declared.view.Seen.{Seen}
use Rattle.rl_shared_replay.specs.declared.view.Held.{Held}
use Rattle.rl_shared_replay.specs.declared.view.View.{View}
use Rattle.rl_shared_replay.specs.Layout.{RowOf, place, cell_place, stamp_at, Shows}
use Rattle.rl_shared_replay.specs.Rule.{Shared, OfSome, Plan, RecordFits, HoldFits, ViewFits, ReplayRule}
use Rattle.rl_shared_replay.specs.Views.{Holds, Stores, with_cell, let_go, renewed}
use Rattle.rl_shared_replay.specs.Steps.{Mine, ColumnStore, Close}
use Rattle.rl_shared_replay.proofs.Views.{at_below, some_set, some_back}
use Rattle.rl_shared_replay.proofs.Lists.{has_front, has_more, has_last, more_cells}
use Rattle.rl_shared_replay.proofs.Moving.{Same, Carries, record_stays, fits_stays, changes}
use Rattle.rl_shared_replay.proofs.Keeping.{Some≢None, Some-injective, carries}

-- the row of the cells of a row
pub row_back : (columns : ℕ) (row : RowOf) → row_of (cells_of columns row) ≡ row
row_back columns None = refl
row_back columns (Some row) = refl

-- lists of cells of one length that are the same at each place
pub same_cells : (xs ys : List ℕ) (n : ℕ) → length xs ≡ n → length ys ≡ n → ((k : ℕ) → k < n → get_or xs k 0 ≡ get_or ys k 0) → xs ≡ ys
same_cells [] [] n a b h = refl
same_cells [] (y ∷ ys) n a b h = absurd (omega arith)
same_cells (x ∷ xs) [] n a b h = absurd (omega arith)
same_cells (x ∷ xs) (y ∷ ys) n a b h = λ i. h 0 (omega arith) i ∷ same_cells xs ys (length xs) refl (omega arith) (λ k l. h (suc k) (omega arith)) i

module _ (p : Plan) (s : Shared) (h : ReplayRule p s) (id : ℕ) (v : View) (at : get_elem? s.views id ≡ some v) (hold : Held) (is : v.held ≡ Some hold) where
  pub fit : HoldFits p s.words hold
  fit = (h.fits id v at).held hold is

  pub mine_is : (q : ℕ) → Holds v q → hold.rec ≡ q
  mine_is q k = ap (λ (x : Held). x.rec) (Some-injective hold k.0 (sym is ∙ k.1)) ∙ k.2

  -- no other view holds it
  pub alone : (j : ℕ) (u : View) → j ≢ id → get_elem? s.views j ≡ some u → Holds u hold.rec → ⊥
  alone j u ne e k = h.apart j id u v ne e at hold.rec k (hold, is, refl)

  -- ---- column store ----
  module _ (value : ℕ) (more : length hold.stored < 1 + p.columns hold.rec) (x : Version) (planned : Contains p.versions x) (its : x.rec ≡ hold.rec) (above : hold.old < x.stamp)
      (cells : (k : ℕ) → k < length (hold.stored ++ value ∷ []) → get_or (hold.stored ++ value ∷ []) k 0 ≡ get_or (cells_of (p.columns hold.rec) x.row) k 0) where
    abbrev i : ℕ
    i = cell_place hold.rec (length hold.stored)

    abbrev us : List ℕ
    us = set s.words i value

    abbrev w : View
    w = with_cell v hold value

    abbrev now : Held
    now = record { rec = hold.rec; old = hold.old; stored = hold.stored ++ value ∷ [] }

    here : get_or us i 0 ≡ value
    here = get_or-set_same s.words i value 0 (let l = h.wide in let m = fit.inside in let n = h.narrow hold.rec in omega arith)

    word : (q : ℕ) → get_or us (place q) 0 ≡ get_or s.words (place q) 0
    word q = get_or-set_other s.words i (place q) value 0 (λ e. let z : 1 + 6 * q ≡ 2 + (6 * hold.rec + length hold.stored) = e in let n = h.narrow hold.rec in omega arith)

    cell : (q k : ℕ) → q ≢ hold.rec → k < 1 + p.columns q → get_or us (cell_place q k) 0 ≡ get_or s.words (cell_place q k) 0
    cell q k ne l = get_or-set_other s.words i (cell_place q k) value 0 (λ e. ne (let z : 2 + (6 * q + k) ≡ 2 + (6 * hold.rec + length hold.stored) = e in let m = h.narrow q in let n = h.narrow hold.rec in omega arith))

    old_cell : (k : ℕ) → k < length hold.stored → get_or us (cell_place hold.rec k) 0 ≡ get_or s.words (cell_place hold.rec k) 0
    old_cell k l = get_or-set_other s.words i (cell_place hold.rec k) value 0 (λ e. let z : 2 + (6 * hold.rec + k) ≡ 2 + (6 * hold.rec + length hold.stored) = e in omega arith)

    longer : 0 < length (hold.stored ++ value ∷ [])
    longer = let a = length-append hold.stored (value ∷ []) in omega arith

    to : (q : ℕ) → Holds v q → Holds w q
    to q k = (now, refl, mine_is q k)

    back : (q : ℕ) → Holds w q → Holds v q
    back q k = (hold, is, ap (λ (y : Held). y.rec) (Some-injective now k.0 k.1) ∙ k.2)

    record_of : (q : ℕ) → q < p.records → RecordFits p us (set s.views id w) q
    record_of q l = dite (ℕ_discrete q hold.rec) (λ e. subst (RecordFits p us (set s.views id w)) (sym e) (own (subst (λ n. RecordFits p s.words s.views n) e (h.records q l)))) (λ ne. others ne)
      where
        own : RecordFits p s.words s.views hold.rec → RecordFits p us (set s.views id w) hold.rec
        own o = record {
          held = λ odd. some_set (λ u. Holds u hold.rec) s.views id v w at (to hold.rec) (o.held (ap (λ n. n % 2) (sym (word hold.rec)) ∙ odd));
          locked = λ k. ap (λ n. n % 2) (word hold.rec) ∙ o.locked (some_back (λ u. Holds u hold.rec) s.views id v w at (back hold.rec) k);
          row = o.row;
          version = ⊎_elim
              (λ a. inl (ap (λ n. n / 2) (word hold.rec) ∙ a.0, a.1))
              (λ b. inr (b.0, some_set (λ u. Contains u.made b.0) s.views id v w at (λ c. c) b.1, b.2, b.3 ∙ ap (λ n. n / 2) (sym (word hold.rec)), b.4))
              o.version;
          shown = λ n. absurd (n (id, w, set_here s.views id w (at_below s.views v id at), (now, refl, refl, longer)));
        }

        others : q ≢ hold.rec → RecordFits p us (set s.views id w) q
        others ne = record_stays p s.words us s.views (set s.views id w) q record { word = word q; cell = λ k m. cell q k ne m }
            (carries p s.views id v w q at (to q) (back q) (λ k. absurd (ne (sym (mine_is q (k.0, k.1, k.2))))) (λ x c. c)) (h.records q l)

    mine : ViewFits p us w
    mine = let f = h.fits id v at in record {
      planned = f.planned;
      seen = λ y c. let a = f.seen y c in let b = word y.rec in omega arith;
      held = λ g e. subst (HoldFits p us) (Some-injective now g e) record {
        inside = fit.inside;
        old = fit.old ∙ ap (λ n. n / 2) (sym (word hold.rec));
        few = (let a = length-append hold.stored (value ∷ []) in omega arith);
        stand = more_cells hold.stored value (λ k. get_or us (cell_place hold.rec k) 0) (λ k l. old_cell k l ∙ fit.stand k l) here;
        stored = λ _. (x, planned, its, (let a = fit.old in let b = word hold.rec in omega arith), cells);
      };
    }

    pub stored : ReplayRule p record { words = us; homes = s.homes; views = set s.views id w }
    stored = changes p s h us id w (length-set s.words i value ∙ h.wide) record_of
        (λ j u ne e. fits_stays p s.words us u (λ q. (let z = word q in omega arith))
        (λ g k. record { word = word g.rec; cell = λ n l. cell g.rec n (λ m. alone j u ne e (g, k, m)) l }) (h.fits j u e))
        mine
        (λ j u ne e q k m. alone j u ne e (subst (Holds u) (sym (mine_is q (back q m))) k))

  -- ---- closing store ----
  module _ (value : ℕ) (w : View) (gone : w.held ≡ None) (even : value % 2 ≡ 0) (up : hold.old ≤ value / 2)
      (made : (x : Version) → Contains v.made x → Contains w.made x) (planned : (x : Version) → Contains w.made x → Contains p.versions x)
      (seen : (y : Seen) → Contains w.seen y → Contains v.seen y ⊎ ((y.rec ≡ hold.rec) × (y.stamp ≡ value / 2))) where
    abbrev zs : List ℕ
    zs = set s.words (place hold.rec) value

    abbrev views : List View
    views = set s.views id w

    landed : get_or zs (place hold.rec) 0 ≡ value
    landed = get_or-set_same s.words (place hold.rec) value 0 (let l = h.wide in let m = fit.inside in omega arith)

    word_kept : (q : ℕ) → q ≢ hold.rec → get_or zs (place q) 0 ≡ get_or s.words (place q) 0
    word_kept q ne = get_or-set_other s.words (place hold.rec) (place q) value 0 (λ e. ne (let z : 1 + 6 * q ≡ 1 + 6 * hold.rec = e in omega arith))

    pub cell_kept : (q k : ℕ) → k < 1 + p.columns q → get_or zs (cell_place q k) 0 ≡ get_or s.words (cell_place q k) 0
    cell_kept q k l = get_or-set_other s.words (place hold.rec) (cell_place q k) value 0 (λ e. let z : 2 + (6 * q + k) ≡ 1 + 6 * hold.rec = e in let m = h.narrow q in omega arith)

    rises : (q : ℕ) → stamp_at s.words q ≤ stamp_at zs q
    rises q = dite (ℕ_discrete q hold.rec)
        (λ e. subst (λ n. get_or s.words (place n) 0 / 2 ≤ get_or zs (place n) 0 / 2) (sym e) (let a = landed in let b = fit.old in omega arith))
        (λ ne. let a = word_kept q ne in omega arith)

    idle : (q : ℕ) → Holds w q → ⊥
    idle q k = Some≢None k.0 (sym k.1 ∙ gone)

    pub nobody : OfSome (λ u. Holds u hold.rec) views → ⊥
    nobody o = ⊎_elim
        (λ (t : (o.0 ≡ id) × (w ≡ o.1)). idle hold.rec (subst (λ u. Holds u hold.rec) (sym t.1) o.3))
        (λ (t : (o.0 ≢ id) × (get_elem? s.views o.0 ≡ some o.1)). alone o.0 o.1 t.0 t.1 o.3)
        (at_set s.views id o.0 w o.1 o.2)

    others : (q : ℕ) → q < p.records → q ≢ hold.rec → RecordFits p zs views q
    others q l ne = record_stays p s.words zs s.views views q record { word = word_kept q ne; cell = λ k m. cell_kept q k m }
        (carries p s.views id v w q at (λ k. absurd (ne (sym (mine_is q k)))) (λ k. absurd (idle q k)) (λ k. absurd (ne (sym (mine_is q (k.0, k.1, k.2))))) made) (h.records q l)

    own_fits : ViewFits p zs w
    own_fits = let f = h.fits id v at in record {
      planned = planned;
      seen = λ y c. ⊎_elim
          (λ (o : Contains v.seen y). let a = f.seen y o in let b = rises y.rec in omega arith)
          (λ (n : (y.rec ≡ hold.rec) × (y.stamp ≡ value / 2)). subst (λ q. y.stamp ≤ get_or zs (place q) 0 / 2) (sym n.0) (let a = landed in let b = n.1 in omega arith))
          (seen y c);
      held = λ g e. absurd (Some≢None g (sym e ∙ gone));
    }

    -- what is left is the record itself
    pub closes : RecordFits p zs views hold.rec → ReplayRule p record { words = zs; homes = s.homes; views = views }
    closes own = changes p s h zs id w (length-set s.words (place hold.rec) value ∙ h.wide)
        (λ q l. dite (ℕ_discrete q hold.rec) (λ e. subst (RecordFits p zs views) (sym e) own) (λ ne. others q l ne))
        (λ j u ne e. fits_stays p s.words zs u rises (λ g k. record { word = word_kept g.rec (λ m. alone j u ne e (g, k, m)); cell = λ n l. cell_kept g.rec n l }) (h.fits j u e))
        own_fits
        (λ j u ne e q k m. idle q m)

    pub stamped : stamp_at zs hold.rec ≡ value / 2
    stamped = ap (λ n. n / 2) landed

    pub unlocked : get_or zs (place hold.rec) 0 % 2 ≡ 1 → ⊥
    unlocked odd = let a = landed in omega arith
