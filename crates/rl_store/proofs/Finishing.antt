-- A decided attempt that holds no record becomes an item, and the rule is kept.
use Rattle.std.proofs.Common.{◌≡◌, ℕ, ◌+◌, List, [], ◌∷◌, ◌++◌, true, false, map, length, set, refl, sym, ap, ◌∙◌, subst, ⊎_elim, arith, length-append, le_refl}
use Rattle.std.specs.Prelude.{Bool, Option, Some, None}
use mathlib.Core.List.{map-append}
use mathlib.Core.Option.{some}
use lib.ListN.{get_elem?}
use lib.Seq.{set-set}
use Rattle.atomic_table.proofs.Lists.{set_here}
use Rattle.rl_store.specs.declared.view.Held.{Held}
use Rattle.rl_store.specs.declared.view.Item.{Item}
use Rattle.rl_store.specs.declared.view.View.{View}
use Rattle.rl_store.specs.Entries.{In, Entry, entries, drawn_entry, of_item, of_attempt, held_rec, write_rec, Decided, Stands, Holds, IsDecided, Locks, Installs}
use Rattle.rl_store.specs.Layout.{Opening}
use Rattle.rl_store.specs.Rule.{Shared}
use Rattle.rl_store.specs.Views.{finished, is_decided, settled, settled_as}
use Rattle.rl_store.proofs.Grouped.{Ent, Fits, Apart, Kept}
use Rattle.rl_store.proofs.Views.{at_below, each_set, pairs_set, put, take_back}
use Rattle.rl_store.proofs.Quiet.{sum_set}
use Rattle.rl_store.proofs.Loads.{Some≢None, nowhere}
use Rattle.rl_store.proofs.Seating.{append_none, at_behind}
use Rattle.rl_store.proofs.Ending.{item_decided}
use Rattle.rl_store.proofs.Deciding.{decided_of}
use Rattle.rl_store.proofs.Turns.{Back, Forth, Same, ent_turns, rec_turns, fits_turns}
use Rattle.rl_store.proofs.Validates.{swap_back, swap_forth, swap_same, swap_sides, swap_differ, to_old, old_stands}

module _ (b : Opening) (s : Shared) (h : Kept b s) (id : ℕ) (v : View) (at : get_elem? s.views id ≡ some v) (t : ℕ) (drawn : v.attempt.drawn ≡ Some t) (sure : Decided (of_attempt v.attempt t)) (bare : v.attempt.held ≡ []) where
  abbrev items : List Entry
  items = map of_item v.items

  abbrev item : Item
  item = record { stamp = t; reads = v.attempt.reads; writes = v.attempt.closed }

  abbrev w : View
  w = finished v t

  abbrev old : Entry
  old = of_attempt v.attempt t

  abbrev m : Entry
  m = of_item item

  abbrev after : List View
  after = set s.views id w

  ev : entries v ≡ items ++ old ∷ []
  ev = ap (λ d. items ++ drawn_entry v.attempt d) drawn

  ew : entries w ≡ items ++ m ∷ []
  ew = append_none (map of_item (v.items ++ item ∷ [])) ∙ map-append of_item v.items (item ∷ [])

  marks : (q : ℕ) → In q m.marks → In q old.marks
  marks q i = (length (map held_rec v.attempt.held) + i.0, at_behind (map held_rec v.attempt.held) (map write_rec v.attempt.closed) i.0 q i.1)

  back : Back b (Stands s.views) (Stands after)
  back = swap_back b s h id v w at items old m ev ew refl (λ _. sure.0) marks

  forth : Forth b (Stands s.views) (Stands after)
  forth = swap_forth b s h id v w at items old m ev ew refl (λ _. item_decided item) (λ q row c. c)

  same : (q : ℕ) → Same b (Stands s.views) (Stands after) q
  same q = swap_same b s h id v w at items old m ev ew refl q (λ row d c. (sure, c))

  holds_old : (q : ℕ) → Holds w q → Holds v q
  holds_old q k = absurd (nowhere k.0 [] refl k.1)

  locks_to : (q : ℕ) → Locks s.views q → Locks after q
  locks_to q y = put (λ u. Holds u q) s.views id v w at (λ k. absurd (nowhere k.0 v.attempt.held bare k.1)) y.0 y.1 y.2 y.3

  locks_from : (q : ℕ) → Locks after q → Locks s.views q
  locks_from q y = take_back (λ u. Holds u q) s.views id v w at (holds_old q) y.0 y.1 y.2 y.3

  installs_to : (q : ℕ) → Installs s.views q → Installs after q
  installs_to q y = let z = put (λ u. Holds u q × IsDecided u.attempt) s.views id v w at (λ p. absurd (nowhere p.0.0 v.attempt.held bare p.0.1)) y.0 y.1 y.2 (y.3, y.4) in (z.0, z.1, z.2, z.3.0, z.3.1)

  goes : (j : ℕ) (u : View) → get_elem? s.views j ≡ some u → Fits b s.words (Stands after) (Installs after) u
  goes j u e = fits_turns b (Stands s.views) (Stands after) back forth s.words s.words (le_refl _) (Installs s.views) (Installs after) (λ q l. le_refl _) (λ q l z n k i. refl) (λ q _. installs_to q) u (λ q l k. (refl, λ i n. refl)) (h.facts.each j u e)

  fits : Fits b s.words (Stands after) (Installs after) w
  fits = let f = h.facts.each id v at in record {
    opened = λ x e. absurd (Some≢None x (sym e));
    counted = λ x i. absurd (nowhere x [] refl i);
    alone = λ x z i. absurd (nowhere x [] refl i);
    hands = λ x i. absurd (nowhere x [] refl i);
    once = λ x g i j p q e. absurd (nowhere x [] refl (i, p));
    undrawn = λ e. refl;
    unclosed = λ x i. absurd (nowhere x [] refl i);
    differ = swap_differ b s h id v w at items old m ev ew refl f.differ;
    drew = (let a = f.drew in let p = ap length ev ∙ length-append items (old ∷ []) in let q = ap length ew ∙ length-append items (m ∷ []) in omega arith);
  }

  own : Ent b s.words (Stands after) m
  own = let e = ent_turns b (Stands s.views) (Stands after) back forth s.words s.words (le_refl _) old (old_stands b s h id v w at items old m ev ew refl) (h.facts.ents old (old_stands b s h id v w at items old m ev ew refl)) in record {
    rows = e.rows;
    older = e.older;
    valid = λ x i j f stands live other marked. e.valid x i (sure.1 x i) f stands live other marked;
    from = e.from;
    to = e.to;
  }

  pub finishes : Kept b record { words = s.words; homes = s.homes; views = after }
  finishes = record {
    facts = record {
      wide = h.facts.wide;
      recs = λ q l. rec_turns b (Stands s.views) (Stands after) back forth s.words s.words (le_refl _) (Locks s.views) (Installs s.views) (Locks after) (Installs after) q refl (λ k _. refl) (locks_to q) (locks_from q) (installs_to q) (same q) (h.facts.recs q l);
      ents = λ e y. ⊎_elim
          (λ o. ent_turns b (Stands s.views) (Stands after) back forth s.words s.words (le_refl _) e o (h.facts.ents e o))
          (λ (q : m ≡ e). subst (Ent b s.words (Stands after)) q own)
          (to_old b s h id v w at items old m ev ew refl e y);
      each = each_set (λ j u. Fits b s.words (Stands after) (Installs after) u) s.views id w (λ j u _ e. goes j u e) fits;
      apart = pairs_set Apart s.views id w h.facts.apart (swap_sides b s h id v w at items old m ev ew refl holds_old);
      opening = h.facts.opening;
      narrow = h.facts.narrow;
    };
    next = h.next ∙ ap (λ n. 2 + n) (sym (sum_set b (λ u. u.draws) s.views id v w at refl));
    whole = (let a = h.whole in let d = sum_set b (λ u. u.draws) s.views id v w at refl in let e = sum_set b (λ u. u.tries) s.views id v w at refl in omega arith);
    few = h.few;
  }

-- a step to w, and then what follows of w: the views are set once
pub twice : (b : Opening) (ws : List ℕ) (s : Shared) (id : ℕ) (w x : View) → Kept b record { words = ws; homes = s.homes; views = set (set s.views id w) id x } → Kept b record { words = ws; homes = s.homes; views = set s.views id x }
twice b ws s id w x = subst (λ l. Kept b record { words = ws; homes = s.homes; views = l }) (set-set s.views id w x)

-- the view that a step left is there
pub left_there : (s : Shared) (id : ℕ) (v w : View) → get_elem? s.views id ≡ some v → get_elem? (set s.views id w) id ≡ some w
left_there s id v w at = set_here s.views id w (at_below s.views v id at)

-- after a step to w, its attempt is settled
pub settles : (b : Opening) (ws : List ℕ) (s : Shared) (id : ℕ) (v w : View) → get_elem? s.views id ≡ some v → Kept b record { words = ws; homes = s.homes; views = set s.views id w } → Kept b record { words = ws; homes = s.homes; views = set s.views id (settled w) }
settles b ws s id v w at h = go w.attempt.held (is_decided w.attempt) w.attempt.drawn refl refl refl
  where
    go : (hs : List Held) (d : Bool) (t : Option ℕ) → w.attempt.held ≡ hs → is_decided w.attempt ≡ d → w.attempt.drawn ≡ t → Kept b record { words = ws; homes = s.homes; views = set s.views id (settled_as hs d t w) }
    go [] true None p q r = h
    go [] true (Some t) p q r = twice b ws s id w (finished w t) (finishes b record { words = ws; homes = s.homes; views = set s.views id w } h id w (left_there s id v w at) t r (decided_of w.attempt t q) p)
    go [] false t p q r = h
    go (y ∷ hs) d t p q r = h

pub settled_tries : (v : View) → (settled v).tries ≡ v.tries
settled_tries v = go v.attempt.held (is_decided v.attempt) v.attempt.drawn
  where
    go : (hs : List Held) (d : Bool) (t : Option ℕ) → (settled_as hs d t v).tries ≡ v.tries
    go [] true None = refl
    go [] true (Some t) = refl
    go [] false t = refl
    go (y ∷ hs) d t = refl
