-- Each step keeps the rule.
use Rattle.std.proofs.Common.{◌≡◌, ◌≢◌, ℕ, zero, suc, ◌+◌, ◌^◌, ◌<◌, ◌≤◌, List, [], ◌∷◌, length, get_or, set, refl, sym, ◌∙◌, subst, ⊎_elim, arith, length-set, get_or-set_other, get_or-set_same, le_refl, zero-le, replicate, rules}
use Rattle.std.proofs.lemmas.List.{length-replicate}
use mathlib.Core.Logic.{dite}
use mathlib.Core.Option.{some, none, some-ne-none, some-injective}
use native.Mathlib.Decide.{ℕ_discrete}
use lib.ListN.{get_elem?}
use lib.Seq.{set-get_or}
use Rattle.atomic_table.specs.Table.{step, keeps, Allows, Splits, Joins}
use Rattle.atomic_table.proofs.Lists.{at_set, set_again, at_last}
use Rattle.rl_progress.specs.declared.rule.View.{View}
use Rattle.rl_progress.specs.Rule.{Shared, Publishes, IsPublisher, IsReader, ViewFits, Apart, ProgressRule, dealer, publisher, reader, joined, spent, loaded, published}
use Rattle.rl_progress.specs.Steps.{Mine, Loaded, Published}
use Rattle.rl_progress.proofs.Lists.{greater_below, greater_same, get_or-zeros}
use Rattle.rl_progress.proofs.Views.{Pairs, OfSome, each_set, each_snoc, pairs_set, pairs_snoc, some_set, some_longer}

module _ (streams : ℕ) where
  -- a step that sets the words to ws and the view of one seat to w, which publishes what v published
  pub changes : (s : Shared) → ProgressRule streams s → (ws : List ℕ) (id : ℕ) (v w : View) → get_elem? s.views id ≡ some v → length ws ≡ streams → ((i : ℕ) → get_or ws i 0 < 2 ^ 40)
      → ((j : ℕ) (u : View) → j ≢ id → get_elem? s.views j ≡ some u → ViewFits ws u) → ViewFits ws w → ((i : ℕ) → Publishes w i → Publishes v i) → ((i : ℕ) → Publishes v i → Publishes w i)
      → ProgressRule streams record { words = ws; homes = s.homes; views = set s.views id w }
  changes s h ws id v w at counted small rest mine less more = record {
    counted = counted;
    small = small;
    fits = each_set (λ j u. ViewFits ws u) s.views id w rest mine;
    owned = λ i l. some_set (λ u. Publishes u i) s.views id v w at (more i) (h.owned i l);
    apart = pairs_set Apart s.views id w h.apart (λ j u apart e. ((λ i p q. h.apart j id u v apart e at i q (less i p)), (λ i p q. h.apart j id u v apart e at i p (less i q))));
  }

  loaded_fits : (ws : List ℕ) (v : View) (i : ℕ) → i < length v.seen → ViewFits ws v → ViewFits ws (loaded v i (get_or ws i 0))
  loaded_fits ws v i inside f = let here : get_or (set v.seen i (get_or ws i 0)) i 0 ≡ get_or ws i 0 = get_or-set_same v.seen i (get_or ws i 0) 0 inside in record {
    seen = λ j. dite (ℕ_discrete j i)
        (λ e. subst (λ k. get_or (set v.seen i (get_or ws i 0)) k 0 ≤ get_or ws k 0) (sym e) (subst (λ n. n ≤ get_or ws i 0) (sym here) (le_refl _)))
        (λ ne. subst (λ n. n ≤ get_or ws j 0) (sym (get_or-set_other v.seen i j (get_or ws i 0) 0 ne)) (f.seen j));
    own = λ j o. (
      (f.own j o).0,
      dite (ℕ_discrete j i)
          (λ e. subst (λ k. get_or (set v.seen i (get_or ws i 0)) k 0 ≡ v.last) (sym e) (here ∙ (f.own i (subst (Publishes v) e o)).0))
          (λ ne. get_or-set_other v.seen i j (get_or ws i 0) 0 ne ∙ (f.own j o).1),
    );
  }

  pub loads : (slots id : ℕ) (me : Mine) (i : ℕ) → i < length me.0.seen → Allows (ProgressRule streams) slots id me i (λ n. n) (Loaded (step slots i 0 0 none) me)
  loads slots id me i inside s h _ at _ =
      let n = get_or s.words i 0 in
      let f = h.fits id me.0 at in
      let w = loaded me.0 i n in
      let kept = changes s h s.words id me.0 w at h.counted h.small (λ j u _ e. h.fits j u e) (loaded_fits s.words me.0 i inside f) (λ j o. o) (λ j o. o) in
      (w, keeps, tt, subst (λ (ws : List ℕ). ProgressRule streams record { words = ws; homes = s.homes; views = set s.views id w }) (sym (set-get_or s.words i 0)) kept, (refl, f.seen i, h.small i))

  -- the own word is set to a seq above the last, and no other view's stream is touched
  module _ (s : Shared) (h : ProgressRule streams s) (id : ℕ) (v : View) (at : get_elem? s.views id ≡ some v) (seq : ℕ) (one : IsPublisher v) (inside : v.first < length v.seen) (stream : v.first < streams) (rises : v.last < seq) where
    mine : Publishes v v.first
    mine = (le_refl _, omega arith)

    abbrev pub ws : List ℕ
    ws = set s.words v.first seq

    there : v.first < length s.words
    there = subst (λ n. v.first < n) (sym h.counted) stream

    here : get_or ws v.first 0 ≡ seq
    here = get_or-set_same s.words v.first seq 0 there

    up : get_or s.words v.first 0 < seq
    up = subst (λ n. n < seq) (sym ((h.fits id v at).own v.first mine).0) rises

    other_fits : (j : ℕ) (u : View) → j ≢ id → get_elem? s.views j ≡ some u → ViewFits ws u
    other_fits j u apart e = let g = h.fits j u e in record {
      seen = λ k. dite (ℕ_discrete k v.first)
          (λ e. subst (λ x. get_or u.seen x 0 ≤ get_or ws x 0) (sym e) (subst (λ n. get_or u.seen v.first 0 ≤ n) (sym here) (let b = g.seen v.first in let l = up in omega arith)))
          (λ ne. subst (λ n. get_or u.seen k 0 ≤ n) (sym (get_or-set_other s.words v.first k seq 0 ne)) (g.seen k));
      own = λ k o. dite (ℕ_discrete k v.first)
          (λ e'. absurd (h.apart j id u v apart e at v.first (subst (λ x. Publishes u x) e' o) mine))
          (λ ne. (get_or-set_other s.words v.first k seq 0 ne ∙ (g.own k o).0, (g.own k o).1));
    }

    own_fits : ViewFits ws (published v seq)
    own_fits = let f = h.fits id v at in let same : get_or (set v.seen v.first seq) v.first 0 ≡ seq = get_or-set_same v.seen v.first seq 0 inside in record {
      seen = λ k. dite (ℕ_discrete k v.first)
          (λ e. subst (λ x. get_or (set v.seen v.first seq) x 0 ≤ get_or ws x 0) (sym e) (subst (λ n. n ≤ get_or ws v.first 0) (here ∙ sym same) (le_refl _)))
          (λ ne. subst (λ n. n ≤ get_or ws k 0) (sym (get_or-set_other v.seen v.first k seq 0 ne)) (subst (λ n. get_or v.seen k 0 ≤ n) (sym (get_or-set_other s.words v.first k seq 0 ne)) (f.seen k)));
      own = λ k o. let e : k ≡ v.first = omega (arith, one, o.0, o.1) in (
        subst (λ x. get_or ws x 0 ≡ seq) (sym e) here,
        subst (λ x. get_or (set v.seen v.first seq) x 0 ≡ seq) (sym e) same,
      );
    }

    all_small : seq < 2 ^ 40 → (j : ℕ) → get_or ws j 0 < 2 ^ 40
    all_small small j = dite (ℕ_discrete j v.first)
        (λ e. subst (λ k. get_or ws k 0 < 2 ^ 40) (sym e) (subst (λ n. n < 2 ^ 40) (sym here) small))
        (λ ne. subst (λ n. n < 2 ^ 40) (sym (get_or-set_other s.words v.first j seq 0 ne)) (h.small j))

    pub stored : seq < 2 ^ 40 → ProgressRule streams record { words = ws; homes = s.homes; views = set s.views id (published v seq) }
    stored small = changes s h ws id v (published v seq) at (length-set s.words v.first seq ∙ h.counted) (all_small small) other_fits own_fits (λ j o. o) (λ j o. o)

  pub publishes : (slots id : ℕ) (me : Mine) (i seq : ℕ) → i ≡ me.0.first → IsPublisher me.0 → i < length me.0.seen → i < streams → me.0.last < seq → seq < 2 ^ 40
      → Allows (ProgressRule streams) slots id me i (λ _. seq) (λ _. Published (step slots i seq 0 none) me seq)
  publishes slots id me i seq is one inside stream rises small s h _ at _ = (
    published me.0 seq,
    keeps,
    tt,
    subst (λ (k : ℕ). ProgressRule streams record { words = set s.words k seq; homes = s.homes; views = set s.views id (published me.0 seq) }) (sym is)
        (stored s h id me.0 at seq one (subst (λ k. k < length me.0.seen) is inside) (subst (λ k. k < streams) is stream) rises small),
    refl,
  )

  pub splits : (id : ℕ) (v : View) → Splits (ProgressRule streams) id v v (reader v)
  splits id v s h at = let again = sym (set_again s.views id v at) in record {
    counted = h.counted;
    small = h.small;
    fits = each_snoc (λ j u. ViewFits s.words u) (set s.views id v) (reader v) (each_set (λ j u. ViewFits s.words u) s.views id v (λ j u _ e. h.fits j u e) (h.fits id v at))
        record { seen = (h.fits id v at).seen; own = λ i o. absurd (omega (arith, o.0, o.1)) };
    owned = λ i l. some_longer (λ u. Publishes u i) (set s.views id v) (reader v) (subst (OfSome (λ u. Publishes u i)) again (h.owned i l));
    apart = pairs_snoc Apart (set s.views id v) (reader v) (subst (λ l. Pairs Apart l) again h.apart) (λ j u e. ((λ i p q. omega (arith, p.0, p.1)), (λ i p q. omega (arith, q.0, q.1))));
  }

  pub joins : (id : ℕ) (v : View) (other : ℕ) (w : View) → IsReader w → Joins (ProgressRule streams) id v other w (joined v w) spent
  joins id v other w reads s h at apart there =
      let x = joined v w in
      let f = h.fits id v at in
      let theirs : get_elem? s.views other ≡ some w = ⊎_elim (λ (t : (other ≡ id) × (x ≡ w)). absurd (apart t.0)) (λ (t : (other ≢ id) × (get_elem? s.views other ≡ some w)). t.1) (at_set s.views id other x w there) in
      let g = h.fits other w theirs in
      let mine : ViewFits s.words x = record {
        seen = λ i. greater_below v.seen w.seen i (get_or s.words i 0) (f.seen i) (g.seen i);
        own = λ i o. let z = f.own i o in (z.0, greater_same v.seen w.seen i (subst (λ n. get_or w.seen i 0 ≤ n) (z.0 ∙ sym z.1) (g.seen i)) ∙ z.1);
      } in
      let one : ProgressRule streams record { words = s.words; homes = s.homes; views = set s.views id x } = changes s h s.words id v x at h.counted h.small (λ j u _ e. h.fits j u e) mine (λ i o. o) (λ i o. o) in
      changes record { words = s.words; homes = s.homes; views = set s.views id x } one s.words other w spent there h.counted h.small (λ j u _ e. one.fits j u e)
      record { seen = λ i. zero-le; own = λ i o. absurd (omega (arith, o.1)) } (λ i o. absurd (omega (arith, o.1))) (λ i o. absurd (omega (arith, reads, o.0, o.1)))

  -- the seat of stream k is split off
  pub deals : (id k : ℕ) → k < streams → Splits (ProgressRule streams) id (dealer streams k) (dealer streams (k + 1)) (publisher streams k)
  deals id k more s h at =
      let v = dealer streams k in let a = dealer streams (k + 1) in let b = publisher streams k in
      let f = h.fits id v at in
      record {
        counted = h.counted;
        small = h.small;
        fits = each_snoc (λ j u. ViewFits s.words u) (set s.views id a) b
            (each_set (λ j u. ViewFits s.words u) s.views id a (λ j u _ e. h.fits j u e) record { seen = f.seen; own = λ i o. f.own i ((let l = o.0 in omega arith), o.1) })
            record { seen = f.seen; own = λ i o. f.own i (o.0, (let l = o.1 in omega arith)) };
        owned = λ i l. dite (ℕ_discrete i k)
            (λ e. (length (set s.views id a), b, at_last (set s.views id a) b (length (set s.views id a)) refl, (omega arith, omega arith)))
            (λ ne. some_longer (λ u. Publishes u i) (set s.views id a) b (some_set (λ u. Publishes u i) s.views id v a at (λ o. ((let l = o.0 in omega arith), o.1)) (h.owned i l)));
        apart = pairs_snoc Apart (set s.views id a) b
            (pairs_set Apart s.views id a h.apart (λ j u apart e. ((λ i p q. h.apart j id u v apart e at i q ((let l = p.0 in omega arith), p.1)), (λ i p q. h.apart j id u v apart e at i p ((let l = q.0 in omega arith), q.1)))))
            (λ j u e. let z = from j u s h at e in (z, λ i p q. z i q p));
      }
    where
      from : (j : ℕ) (u : View) (s : Shared) → ProgressRule streams s → get_elem? s.views id ≡ some (dealer streams k) → get_elem? (set s.views id (dealer streams (k + 1))) j ≡ some u → Apart (publisher streams k) u
      from j u s h at e = ⊎_elim
          (λ (t : (j ≡ id) × (dealer streams (k + 1) ≡ u)). subst (λ x. Apart (publisher streams k) x) t.1 (λ i p q. let a = p.1 in let b = q.0 in omega arith))
          (λ (t : (j ≢ id) × (get_elem? s.views j ≡ some u)). λ i p q. h.apart j id u (dealer streams k) t.0 t.1 at i q (p.0, (let l = p.1 in omega arith)))
          (at_set s.views id j (dealer streams (k + 1)) u e)

-- the rule holds at the start
pub opens : (streams : ℕ) (words : List ℕ) → words ≡ replicate streams 0 → ProgressRule streams record { words = words; homes = []; views = dealer streams 0 ∷ [] }
opens streams words e = subst (λ ws. ProgressRule streams record { words = ws; homes = []; views = dealer streams 0 ∷ [] }) (sym e) record {
  counted = search (rules, length-replicate);
  small = λ i. subst (λ n. n < 2 ^ 40) (sym (get_or-zeros streams i)) (omega arith);
  fits = λ id v at. one id v at;
  owned = λ i l. (0, dealer streams 0, refl, (zero-le, l));
  apart = λ i j v w apart a b. two i j v w apart a b;
}
  where
    one : (id : ℕ) (v : View) → get_elem? (dealer streams 0 ∷ []) id ≡ some v → ViewFits (replicate streams 0) v
    one zero v at = subst (ViewFits (replicate streams 0)) (some-injective _ _ at) record { seen = λ i. le_refl _; own = λ i o. (get_or-zeros streams i, get_or-zeros streams i) }
    one (suc id) v at = absurd (some-ne-none v (sym at))

    two : (i j : ℕ) (v w : View) → i ≢ j → get_elem? (dealer streams 0 ∷ []) i ≡ some v → get_elem? (dealer streams 0 ∷ []) j ≡ some w → Apart v w
    two zero zero v w apart a b = absurd (apart refl)
    two zero (suc j) v w apart a b = absurd (some-ne-none w (sym b))
    two (suc i) j v w apart a b = absurd (some-ne-none v (sym a))
