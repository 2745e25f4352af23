-- What the rule says of a record and of a view, over a change of the words and of the views.
use Rattle.std.proofs.Common.{◌≡◌, ◌≢◌, ◌⊎◌, ℕ, ◌+◌, ◌*◌, ◌/◌, ◌%◌, ◌<◌, ◌≤◌, List, length, get_or, set, refl, sym, ap, ◌∙◌, subst, inl, inr, ⊎_elim, Contains, arith}
use Rattle.std.specs.Prelude.{Some}
use mathlib.Core.Option.{some}
use lib.ListN.{get_elem?}
use Rattle.rl_value.specs.Cells.{cells_of}
use Rattle.rl_shared_replay.specs.declared.view.Version.{Version}
use Rattle.rl_shared_replay.specs.declared.view.Held.{Held}
use Rattle.rl_shared_replay.specs.declared.view.View.{View}
use Rattle.rl_shared_replay.specs.Layout.{RowOf, place, cell_place, stamp_at, Shows}
use Rattle.rl_shared_replay.specs.Rule.{Shared, OfSome, Plan, IsMade, RecordFits, HoldFits, ViewFits, ReplayRule}
use Rattle.rl_shared_replay.specs.Views.{Holds, Stores}
use Rattle.rl_shared_replay.proofs.Views.{each_set, pairs_set}

module _ (p : Plan) where
  -- the words of r are the same
  pub record Same (ws us : List ℕ) (r : ℕ) : Type 0 where
    pub word : get_or us (place r) 0 ≡ get_or ws (place r) 0
    pub cell : (k : ℕ) → k < 1 + p.columns r → get_or us (cell_place r k) 0 ≡ get_or ws (cell_place r k) 0

  pub same_shows : (ws us : List ℕ) (r : ℕ) (row : RowOf) → Same ws us r → Shows (p.columns r) ws r row → Shows (p.columns r) us r row
  same_shows ws us r row e h = (h.0, λ k l. e.cell k l ∙ h.1 k l)

  -- what the versions of r rest on is kept from some views to others
  pub record Carries (vs xs : List View) (r : ℕ) : Type 0 where
    pub holds : OfSome (λ v. Holds v r) vs → OfSome (λ v. Holds v r) xs
    pub back : OfSome (λ v. Holds v r) xs → OfSome (λ v. Holds v r) vs
    pub stores : OfSome (λ v. Stores v r) vs → OfSome (λ v. Stores v r) xs
    pub made : (x : Version) → OfSome (λ v. Contains v.made x) vs → OfSome (λ v. Contains v.made x) xs

  pub made_moves : (ws : List ℕ) (vs xs : List View) (r stamp : ℕ) (row : RowOf) → ((x : Version) → OfSome (λ v. Contains v.made x) vs → OfSome (λ v. Contains v.made x) xs) → IsMade p ws vs r stamp row → IsMade p ws xs r stamp row
  made_moves ws vs xs r stamp row f m = (m.0, f m.0 m.1, m.2, m.3, m.4)

  pub record_stays : (ws us : List ℕ) (vs xs : List View) (r : ℕ) → Same ws us r → Carries vs xs r → RecordFits p ws vs r → RecordFits p us xs r
  record_stays ws us vs xs r e c h = record {
    held = λ odd. c.holds (h.held (ap (λ n. n % 2) (sym e.word) ∙ odd));
    locked = λ o. ap (λ n. n % 2) e.word ∙ h.locked (c.back o);
    row = h.row;
    version = ⊎_elim
        (λ o. inl (ap (λ n. n / 2) e.word ∙ o.0, o.1))
        (λ (m : IsMade p ws vs r (stamp_at ws r) h.row). inr (m.0, c.made m.0 m.1, m.2, m.3 ∙ ap (λ n. n / 2) (sym e.word), m.4))
        h.version;
    shown = λ n. same_shows ws us r h.row e (h.shown (λ o. n (c.stores o)));
  }

  pub fits_stays : (ws us : List ℕ) (u : View) → ((q : ℕ) → stamp_at ws q ≤ stamp_at us q) → ((h : Held) → u.held ≡ Some h → Same ws us h.rec) → ViewFits p ws u → ViewFits p us u
  fits_stays ws us u up same f = record {
    planned = f.planned;
    seen = λ y c. let a = f.seen y c in let b = up y.rec in omega arith;
    held = λ h e. let g = f.held h e in let z = same h e in record {
      inside = g.inside;
      old = g.old ∙ ap (λ n. n / 2) (sym z.word);
      few = g.few;
      stand = λ k l. z.cell k (let m = g.few in omega arith) ∙ g.stand k l;
      stored = λ l. let x = g.stored l in (x.0, x.1, x.2, (let a = x.3 in let b = ap (λ n. n / 2) z.word in omega arith), x.4);
    };
  }

  -- a step that sets the words to us and the view of one seat to w, which holds no more than v did or what is free
  pub changes : (s : Shared) → ReplayRule p s → (us : List ℕ) (id : ℕ) (w : View) → length us ≡ 1 + 6 * p.records
      → ((r : ℕ) → r < p.records → RecordFits p us (set s.views id w) r)
      → ((j : ℕ) (u : View) → j ≢ id → get_elem? s.views j ≡ some u → ViewFits p us u) → ViewFits p us w
      → ((j : ℕ) (u : View) → j ≢ id → get_elem? s.views j ≡ some u → (r : ℕ) → Holds u r → Holds w r → ⊥)
      → ReplayRule p record { words = us; homes = s.homes; views = set s.views id w }
  changes s h us id w wide recs rest mine apart = record {
    wide = wide;
    narrow = h.narrow;
    records = recs;
    fits = each_set (ViewFits p us) s.views id w rest mine;
    apart = pairs_set (λ a b. (r : ℕ) → Holds a r → Holds b r → ⊥) s.views id w h.apart (λ j u ne e. ((λ r k m. apart j u ne e r m k), (λ r k m. apart j u ne e r k m)));
  }
