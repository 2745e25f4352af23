-- Steps that change no word, and of the views only what no other view rests on.
use Rattle.std.proofs.Common.{◌≡◌, ℕ, ◌+◌, ◌*◌, ◌/◌, List, [], ◌∷◌, ◌++◌, length, get_or, set, sym, ap, ◌∙◌, subst, inl, inr, ⊎_elim, arith}
use Rattle.std.specs.Prelude.{sum_by}
use mathlib.Core.Option.{some}
use lib.ListN.{get_elem?}
use Rattle.atomic_table.proofs.Lists.{at_longer}
use Rattle.rl_store.specs.declared.view.View.{View}
use Rattle.rl_store.specs.Entries.{In, Entry, RowOf, entries, Decided, Stands, Holds, IsDecided, Locks, Installs}
use Rattle.rl_store.specs.Layout.{Opening, Version}
use Rattle.rl_store.specs.Rule.{Shared}
use Rattle.rl_store.proofs.Grouped.{Rec, Ent, Fits, Apart, Facts, Kept}
use Rattle.rl_store.proofs.Views.{Pairs, at_end, each_set, each_snoc, pairs_set, pairs_snoc, put, take_back, sum_put}

-- what others rest on of a view is the same in another, but that an undecided entry may be gone
pub record Quiet (v w : View) : Type 0 where
  pub keep : (e : Entry) → In e (entries v) → Decided e → In e (entries w)
  pub sub : (e : Entry) → In e (entries w) → In e (entries v)
  pub there : (r : ℕ) → Holds v r → Holds w r
  pub back : (r : ℕ) → Holds w r → Holds v r
  pub installs : (r : ℕ) → Holds v r → IsDecided v.attempt → Holds w r × IsDecided w.attempt

module _ (b : Opening) where
  module _ (E F : Entry → Type 0) (keep : (e : Entry) → E e → Decided e → F e) where
    pub version_moves : (r t : ℕ) (row : RowOf) → Version b E r t row → Version b F r t row
    version_moves r t row v = ⊎_elim (λ o. inl o) (λ x. inr (x.0, keep x.0 x.1 x.2, x.2, x.3, x.4)) v

  module _ (ws : List ℕ) (E F : Entry → Type 0) (keep : (e : Entry) → E e → Decided e → F e) (sub : (e : Entry) → F e → E e) where
    pub ent_moves : (e : Entry) → Ent b ws E e → Ent b ws F e
    ent_moves e h = record {
      rows = λ x i. version_moves E F keep x.rec x.stamp x.row (h.rows x i);
      older = h.older;
      valid = λ x i j f s. h.valid x i j f (sub f s);
      from = h.from;
      to = h.to;
    }

    pub rec_moves : (L I M J : ℕ → Type 0) (r : ℕ) → (L r → M r) → (M r → L r) → (I r → J r) → Rec b ws E L I r → Rec b ws F M J r
    rec_moves L I M J r there back installs h = record {
      locked = λ e. there (h.locked e);
      locks = λ m. h.locks (back m);
      row = h.row;
      version = version_moves E F keep r (get_or ws (1 + 6 * r) 0 / 2) h.row h.version;
      shown = λ n. h.shown (λ i. n (installs i));
      newest = λ e cells s. h.newest e cells (sub e s);
      below = h.below;
    }

    pub fits_moves : (I J : ℕ → Type 0) (v : View) → ((r : ℕ) → I r → J r) → Fits b ws E I v → Fits b ws F J v
    fits_moves I J v installs h = record {
      opened = λ x e. let o = h.opened x e in record { inside = o.inside; seen = o.seen; short = o.short; same = λ t n. o.same t (λ i. n (installs x.rec i)) };
      counted = λ x i. let c = h.counted x i in (version_moves E F keep x.rec x.stamp x.row c.0, c.1, c.2);
      alone = h.alone;
      hands = h.hands;
      once = h.once;
      undrawn = h.undrawn;
      unclosed = h.unclosed;
      differ = h.differ;
      drew = h.drew;
    }

  -- the facts go over to other views, in which the entries that are decided stand as before and no new one does
  pub transport : (s : Shared) (views : List View) → Facts b s
      → ((e : Entry) → Stands s.views e → Decided e → Stands views e) → ((e : Entry) → Stands views e → Stands s.views e)
      → ((r : ℕ) → Locks s.views r → Locks views r) → ((r : ℕ) → Locks views r → Locks s.views r) → ((r : ℕ) → Installs s.views r → Installs views r)
      → ((id : ℕ) (v : View) → get_elem? views id ≡ some v → Fits b s.words (Stands s.views) (Installs s.views) v)
      → Pairs Apart views
      → Facts b record { words = s.words; homes = s.homes; views = views }
  transport s views h keep sub there back installs each apart = record {
    wide = h.wide;
    recs = λ r l. rec_moves s.words (Stands s.views) (Stands views) keep sub (Locks s.views) (Installs s.views) (Locks views) (Installs views) r (there r) (back r) (installs r) (h.recs r l);
    ents = λ e x. ent_moves s.words (Stands s.views) (Stands views) keep sub e (h.ents e (sub e x));
    each = λ id v at. fits_moves s.words (Stands s.views) (Stands views) keep sub (Installs s.views) (Installs views) v installs (each id v at);
    apart = apart;
    opening = h.opening;
    narrow = h.narrow;
  }

  pub sum_set : (f : View → ℕ) (views : List View) (id : ℕ) (v w : View) → get_elem? views id ≡ some v → f w ≡ f v → sum_by f (set views id w) ≡ sum_by f views
  sum_set f views id v w at e = let p = sum_put f views id v w at in omega arith

  pub quiet : (s : Shared) (id : ℕ) (v w : View) → Facts b s → get_elem? s.views id ≡ some v → Quiet v w → Fits b s.words (Stands s.views) (Installs s.views) w
      → Facts b record { words = s.words; homes = s.homes; views = set s.views id w }
  quiet s id v w h at q fits = transport s (set s.views id w) h
      (λ e x d. put (λ u. In e (entries u)) s.views id v w at (λ i. q.keep e i d) x.0 x.1 x.2 x.3)
      (λ e x. take_back (λ u. In e (entries u)) s.views id v w at (q.sub e) x.0 x.1 x.2 x.3)
      (λ r x. put (λ u. Holds u r) s.views id v w at (q.there r) x.0 x.1 x.2 x.3)
      (λ r x. take_back (λ u. Holds u r) s.views id v w at (q.back r) x.0 x.1 x.2 x.3)
      (λ r x. let y = put (λ u. Holds u r × IsDecided u.attempt) s.views id v w at (λ p. q.installs r p.0 p.1) x.0 x.1 x.2 (x.3, x.4) in (y.0, y.1, y.2, y.3.0, y.3.1))
      (each_set (λ j u. Fits b s.words (Stands s.views) (Installs s.views) u) s.views id w (λ j u _ e. h.each j u e) fits)
      (pairs_set Apart s.views id w h.apart (λ j u apart e.
      let a = h.apart id j v u (λ z. apart (sym z)) at e in
      let c = h.apart j id u v apart e at in (
        record { records = λ r p q'. a.records r (q.back r p) q'; stamps = λ x y i k. a.stamps x y (q.sub x i) k },
        record { records = λ r p q'. c.records r p (q.back r q'); stamps = λ x y i k. c.stamps x y i (q.sub y k) },
      )))

  pub quiet_rule : (s : Shared) (id : ℕ) (v w : View) → Kept b s → get_elem? s.views id ≡ some v → Quiet v w → w.draws ≡ v.draws → w.tries ≡ v.tries → Fits b s.words (Stands s.views) (Installs s.views) w
      → Kept b record { words = s.words; homes = s.homes; views = set s.views id w }
  quiet_rule s id v w h at q draws tries fits = record {
    facts = quiet s id v w h.facts at q fits;
    next = h.next ∙ ap (λ n. 2 + n) (sym (sum_set (λ u. u.draws) s.views id v w at draws));
    whole = (let a = h.whole in let d = sum_set (λ u. u.draws) s.views id v w at draws in let t = sum_set (λ u. u.tries) s.views id v w at tries in omega arith);
    few = h.few;
  }

  -- one more view, with no entry and no record
  pub quiet_more : (s : Shared) (w : View) → Facts b s → ((e : Entry) → In e (entries w) → ⊥) → ((r : ℕ) → Holds w r → ⊥) → Fits b s.words (Stands s.views) (Installs s.views) w
      → Facts b record { words = s.words; homes = s.homes; views = s.views ++ w ∷ [] }
  quiet_more s w h none free fits = transport s (s.views ++ w ∷ []) h
      (λ e x d. (x.0, x.1, at_longer s.views (w ∷ []) x.0 x.1 x.2, x.3))
      (λ e x. less (λ u. In e (entries u)) (none e) x.0 x.1 x.2 x.3)
      (λ r x. (x.0, x.1, at_longer s.views (w ∷ []) x.0 x.1 x.2, x.3))
      (λ r x. less (λ u. Holds u r) (free r) x.0 x.1 x.2 x.3)
      (λ r x. (x.0, x.1, at_longer s.views (w ∷ []) x.0 x.1 x.2, x.3, x.4))
      (each_snoc (λ j u. Fits b s.words (Stands s.views) (Installs s.views) u) s.views w h.each fits)
      (pairs_snoc Apart s.views w h.apart (λ j u e. (
        record { records = λ r p q'. free r p; stamps = λ x y i k. absurd (none x i) },
        record { records = λ r p q'. free r q'; stamps = λ x y i k. absurd (none y k) },
      )))
    where
      less : (P : View → Type 0) → (P w → ⊥) → (j : ℕ) (u : View) → get_elem? (s.views ++ w ∷ []) j ≡ some u → P u → (k : ℕ) × (x : View) × (get_elem? s.views k ≡ some x) × P x
      less P bad j u e p = ⊎_elim
          (λ (x : get_elem? s.views j ≡ some u). (j, u, x, p))
          (λ (x : (j ≡ length s.views) × (w ≡ u)). absurd (bad (subst P (sym x.1) p)))
          (at_end s.views w u j e)
