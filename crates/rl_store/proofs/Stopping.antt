-- A refusal after the draw: it gives up an attempt that holds a record, and ends another.
use Rattle.std.proofs.Common.{◌≡◌, ℕ, ◌+◌, true, true≢false, List, [], ◌∷◌, ◌++◌, map, length, set, refl, sym, ap, ◌∙◌, subst, ⊎_elim, arith, length-append, le_refl}
use Rattle.std.specs.Prelude.{Some}
use mathlib.Core.Option.{some}
use lib.ListN.{get_elem?}
use Rattle.atomic_table.proofs.Lists.{at_longer}
use Rattle.rl_store.specs.declared.view.Held.{Held}
use Rattle.rl_store.specs.declared.view.Refused.{Refused}
use Rattle.rl_store.specs.declared.view.View.{View}
use Rattle.rl_store.specs.Entries.{Entry, entries, drawn_entry, of_item, of_attempt, Decided, Stands, Holds, IsDecided, Locks, Installs}
use Rattle.rl_store.specs.Layout.{Opening}
use Rattle.rl_store.specs.Rule.{Shared}
use Rattle.rl_store.proofs.Grouped.{Ent, Fits, Apart, Kept}
use Rattle.rl_store.specs.Views.{refused, gave_up, stopped}
use Rattle.rl_store.proofs.Views.{each_set, pairs_set, put, take_back}
use Rattle.rl_store.proofs.Quiet.{quiet_rule, sum_set}
use Rattle.rl_store.proofs.Loads.{Some≢None, Some-injective, nowhere}
use Rattle.rl_store.proofs.Seating.{append_none, keeps_decided}
use Rattle.rl_store.proofs.Turns.{Back, Forth, Same, ent_turns, rec_turns, fits_turns}
use Rattle.rl_store.proofs.Validates.{swap_back, swap_forth, swap_same, swap_sides, swap_differ, to_old, old_stands}

module _ (b : Opening) (s : Shared) (h : Kept b s) (id : ℕ) (v : View) (at : get_elem? s.views id ≡ some v) (t : ℕ) (drawn : v.attempt.drawn ≡ Some t) (unsure : Decided (of_attempt v.attempt t) → ⊥) (x : Refused) where
  abbrev items : List Entry
  items = map of_item v.items

  bare : IsDecided v.attempt → ⊥
  bare d = unsure (subst (λ n. Decided (of_attempt v.attempt n)) (Some-injective _ _ (sym d.1 ∙ drawn)) d.2)

  ends : v.attempt.held ≡ [] → Kept b record { words = s.words; homes = s.homes; views = set s.views id (refused v x) }
  ends held =
      let f = h.facts.each id v at in
      let old : (e : Entry) (i : ℕ) → get_elem? (items ++ []) i ≡ some e → get_elem? (entries v) i ≡ some e = (λ e i p. at_longer items (drawn_entry v.attempt v.attempt.drawn) i e (subst (λ l. get_elem? l i ≡ some e) (append_none items) p)) in
      quiet_rule b s id v (refused v x) h at
      record {
        keep = λ e i d. keeps_decided b v.attempt items v.attempt.drawn e (λ t' p q. bare (t', p, q)) i d;
        sub = λ e i. (i.0, old e i.0 i.1);
        there = λ r k. absurd (nowhere k.0 v.attempt.held held k.1);
        back = λ r k. absurd (nowhere k.0 [] refl k.1);
        installs = λ r k. absurd (nowhere k.0 v.attempt.held held k.1);
      }
      refl refl
      record {
        opened = λ y e. absurd (Some≢None y (sym e));
        counted = λ y i. absurd (nowhere y [] refl i);
        alone = λ y z i. absurd (nowhere y [] refl i);
        hands = λ y i. absurd (nowhere y [] refl i);
        once = λ y g i j p q e. absurd (nowhere y [] refl (i, p));
        undrawn = λ e. refl;
        unclosed = λ y i. absurd (nowhere y [] refl i);
        differ = λ e g i j p q. f.differ e g i j (old e i p) (old g j q);
        drew = (let a = f.drew in let l = length-append items (drawn_entry v.attempt v.attempt.drawn) in let m = length-append items [] in omega arith);
      }

  module _ where
    abbrev w : View
    w = gave_up v x

    abbrev old : Entry
    old = of_attempt v.attempt t

    abbrev m : Entry
    m = of_attempt w.attempt t

    abbrev after : List View
    after = set s.views id w

    ev : entries v ≡ items ++ old ∷ []
    ev = ap (λ d. items ++ drawn_entry v.attempt d) drawn

    ew : entries w ≡ items ++ m ∷ []
    ew = ap (λ d. items ++ drawn_entry w.attempt d) drawn

    dead : {P : Type 0} → m.live ≡ true → P
    dead e = absurd (true≢false (sym e))

    back : Back b (Stands s.views) (Stands after)
    back = swap_back b s h id v w at items old m ev ew refl (λ l. dead l) (λ q i. i)

    forth : Forth b (Stands s.views) (Stands after)
    forth = swap_forth b s h id v w at items old m ev ew refl (λ d. absurd (unsure d)) (λ q cells c. c)

    same : (q : ℕ) → Same b (Stands s.views) (Stands after) q
    same q = swap_same b s h id v w at items old m ev ew refl q (λ cells d c. dead d.0)

    locks_to : (q : ℕ) → Locks s.views q → Locks after q
    locks_to q y = put (λ u. Holds u q) s.views id v w at (λ k. k) y.0 y.1 y.2 y.3

    locks_from : (q : ℕ) → Locks after q → Locks s.views q
    locks_from q y = take_back (λ u. Holds u q) s.views id v w at (λ k. k) y.0 y.1 y.2 y.3

    installs_to : (q : ℕ) → Installs s.views q → Installs after q
    installs_to q y = let z = put (λ u. Holds u q × IsDecided u.attempt) s.views id v w at (λ p. absurd (bare p.1)) y.0 y.1 y.2 (y.3, y.4) in (z.0, z.1, z.2, z.3.0, z.3.1)

    goes : (j : ℕ) (u : View) → get_elem? s.views j ≡ some u → Fits b s.words (Stands after) (Installs after) u
    goes j u e = fits_turns b (Stands s.views) (Stands after) back forth s.words s.words (le_refl _) (Installs s.views) (Installs after) (λ q l. le_refl _) (λ q l z n k i. refl) (λ q _. installs_to q) u (λ q l k. (refl, λ i n. refl)) (h.facts.each j u e)

    fits : Fits b s.words (Stands after) (Installs after) w
    fits = let f = goes id v at in record {
      opened = f.opened;
      counted = f.counted;
      alone = f.alone;
      hands = λ y i. let g = f.hands y i in record { inside = g.inside; old = g.old; short = g.short; stored = g.stored; early = λ l. absurd (bare (g.early l)); later = g.later };
      once = f.once;
      undrawn = λ e. absurd (Some≢None t (sym drawn ∙ e));
      unclosed = λ y i. absurd (bare (f.unclosed y i));
      differ = swap_differ b s h id v w at items old m ev ew refl f.differ;
      drew = (let a = f.drew in let p = ap length ev ∙ length-append items (old ∷ []) in let q = ap length ew ∙ length-append items (m ∷ []) in omega arith);
    }

    stays_locked : Kept b record { words = s.words; homes = s.homes; views = after }
    stays_locked = record {
      facts = record {
        wide = h.facts.wide;
        recs = λ q l. rec_turns b (Stands s.views) (Stands after) back forth s.words s.words (le_refl _) (Locks s.views) (Installs s.views) (Locks after) (Installs after) q refl (λ k _. refl) (locks_to q) (locks_from q) (installs_to q) (same q) (h.facts.recs q l);
        ents = λ e y. ⊎_elim
            (λ o. ent_turns b (Stands s.views) (Stands after) back forth s.words s.words (le_refl _) e o (h.facts.ents e o))
            (λ (q : m ≡ e). subst (Ent b s.words (Stands after)) q (let k = ent_turns b (Stands s.views) (Stands after) back forth s.words s.words (le_refl _) old (old_stands b s h id v w at items old m ev ew refl) (h.facts.ents old (old_stands b s h id v w at items old m ev ew refl)) in record { rows = k.rows; older = k.older; valid = k.valid; from = k.from; to = k.to }))
            (to_old b s h id v w at items old m ev ew refl e y);
        each = each_set (λ j u. Fits b s.words (Stands after) (Installs after) u) s.views id w (λ j u _ e. goes j u e) fits;
        apart = pairs_set Apart s.views id w h.facts.apart (swap_sides b s h id v w at items old m ev ew refl (λ q k. k));
        opening = h.facts.opening;
        narrow = h.facts.narrow;
      };
      next = h.next ∙ ap (λ n. 2 + n) (sym (sum_set b (λ u. u.draws) s.views id v w at refl));
      whole = (let a = h.whole in let d = sum_set b (λ u. u.draws) s.views id v w at refl in let e = sum_set b (λ u. u.tries) s.views id v w at refl in omega arith);
      few = h.few;
    }

  pub stops_drawn : Kept b record { words = s.words; homes = s.homes; views = set s.views id (stopped v.attempt.held v x) }
  stops_drawn = go v.attempt.held refl
    where
      go : (hs : List Held) → v.attempt.held ≡ hs → Kept b record { words = s.words; homes = s.homes; views = set s.views id (stopped hs v x) }
      go [] e = ends e
      go (y ∷ hs) e = stays_locked
