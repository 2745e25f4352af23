-- A lock keeps the rule.
use Rattle.std.proofs.Common.{◌≡◌, ◌≢◌, ℕ, ◌+◌, ◌*◌, ◌/◌, ◌%◌, ◌<◌, ◌≤◌, List, [], ◌∷◌, ◌++◌, map, length, get_or, set, refl, sym, ap, ◌∙◌, subst, inl, ⊎_elim, arith, length-set, get_or-set_same, get_or-set_other}
use Rattle.std.specs.Prelude.{bit_or, None}
use mathlib.Core.Logic.{dite}
use mathlib.Core.Option.{some, none}
use native.Mathlib.Decide.{ℕ_discrete}
use lib.ListN.{get_elem?}
use lib.Seq.{set-get_or}
use Rattle.atomic_table.specs.Table.{step, keeps, Allows}
use Rattle.rl_store.specs.declared.view.Held.{Held}
use Rattle.rl_store.specs.declared.view.Refused.{Refused}
use Rattle.rl_store.specs.declared.view.View.{View}
use Rattle.rl_store.specs.Entries.{In, Entry, entries, drawn_entry, of_item, Stands, Holds, IsDecided, Locks, Installs}
use Rattle.rl_store.specs.Layout.{Opening, place, cell_place, Version}
use Rattle.rl_store.specs.Rule.{Shared}
use Rattle.rl_store.proofs.Grouped.{Rec, Fits, Hand, Apart, Kept}
use Rattle.rl_store.specs.Views.{refused, gave_up, stopped, locked_at, with_lock}
use Rattle.rl_store.specs.Steps.{Mine, Lock}
use Rattle.atomic_table.proofs.Lists.{at_longer, set_here}
use Rattle.rl_store.proofs.Seating.{at_behind}
use Rattle.rl_store.proofs.Views.{at_below, at_end, each_set, pairs_set, put, take_back}
use Rattle.rl_store.proofs.Quiet.{Quiet, quiet_rule, sum_set}
use Rattle.rl_store.proofs.Loads.{Some≢None, nowhere, Still, still_quiet, still_fits}
use Rattle.rl_store.proofs.Turns.{Back, Forth, Same, ent_turns, rec_turns, fits_turns, version_turns}
use Rattle.rl_store.proofs.Bits.{set_locked, set_free}

pub undrawn_entries : (v : View) → v.attempt.drawn ≡ None → entries v ≡ map of_item v.items ++ []
undrawn_entries v e = ap (λ d. map of_item v.items ++ drawn_entry v.attempt d) e

pub undecided : (v : View) → v.attempt.drawn ≡ None → IsDecided v.attempt → ⊥
undecided v e d = Some≢None d.0 (sym d.1 ∙ e)

module _ (b : Opening) where
  -- an attempt gives up before the draw
  pub gives_up : (ws : List ℕ) (E : Entry → Type 0) (I : ℕ → Type 0) (v : View) (x : Refused) → v.attempt.drawn ≡ None → Fits b ws E I v → Quiet v (gave_up v x) × Fits b ws E I (gave_up v x)
  gives_up ws E I v x drawn f =
      let w = gave_up v x in
      let same : entries w ≡ entries v = undrawn_entries w drawn ∙ sym (undrawn_entries v drawn) in (
        record { keep = λ e i d. subst (In e) (sym same) i; sub = λ e i. subst (In e) same i; there = λ r k. k; back = λ r k. k; installs = λ r k d. absurd (undecided v drawn d) },
        record {
          opened = f.opened;
          counted = f.counted;
          alone = f.alone;
          hands = λ y i. let k = f.hands y i in record { inside = k.inside; old = k.old; short = k.short; stored = k.stored; early = λ l. absurd (undecided v drawn (k.early l)); later = k.later };
          once = f.once;
          undrawn = f.undrawn;
          unclosed = λ y i. absurd (undecided v drawn (f.unclosed y i));
          differ = λ e g i j p q. f.differ e g i j (subst (λ l. get_elem? l i ≡ some e) same p) (subst (λ l. get_elem? l j ≡ some g) same q);
          drew = subst (λ l. length l ≤ v.draws) (sym same) f.drew;
        },
      )

  -- a refusal before the draw
  pub stop_keeps : (ws : List ℕ) (E : Entry → Type 0) (I : ℕ → Type 0) (v : View) (x : Refused) (hs : List Held) → v.attempt.held ≡ hs → v.attempt.drawn ≡ None → Fits b ws E I v → Quiet v (stopped hs v x) × Fits b ws E I (stopped hs v x)
  stop_keeps ws E I v x [] held drawn f =
      let still : Still v (refused v x) = record { items = refl; drawn = drawn; drawn' = refl; held = held; held' = refl; draws = refl; tries = refl } in
      (still_quiet v (refused v x) still, still_fits b ws E I v (refused v x) still f (λ y e. absurd (Some≢None y (sym e))) (λ y i. absurd (nowhere y [] refl i)) (λ y z i. absurd (nowhere y [] refl i)) refl (λ y i. nowhere y [] refl i))
  stop_keeps ws E I v x (h ∷ hs) held drawn f = gives_up ws E I v x drawn f

  module _ (s : Shared) (h : Kept b s) (id : ℕ) (v w : View) (at : get_elem? s.views id ≡ some v) (same : entries w ≡ entries v) where
    pub to_new : (e : Entry) → Stands s.views e → Stands (set s.views id w) e
    to_new e x = put (λ u. In e (entries u)) s.views id v w at (λ i. subst (In e) (sym same) i) x.0 x.1 x.2 x.3

    pub to_old : (e : Entry) → Stands (set s.views id w) e → Stands s.views e
    to_old e x = take_back (λ u. In e (entries u)) s.views id v w at (λ i. subst (In e) same i) x.0 x.1 x.2 x.3

    pub back_same : Back b (Stands s.views) (Stands (set s.views id w))
    back_same f x = inl (f, to_old f x, refl, (λ l. l), (λ r i. i))

    pub forth_same : Forth b (Stands s.views) (Stands (set s.views id w))
    forth_same e x d = (e, to_new e x, d, refl, (λ r cells c. c))

    pub same_same : (r : ℕ) → Same b (Stands s.views) (Stands (set s.views id w)) r
    same_same r f cells x d c = (f, to_old f x, d, refl, c)

  module _ (s : Shared) (h : Kept b s) (id : ℕ) (v : View) (at : get_elem? s.views id ≡ some v) (r : ℕ) (inside : r < b.records) (drawn : v.attempt.drawn ≡ None) (even : get_or s.words (place r) 0 % 2 ≡ 0) where
    abbrev n : ℕ
    n = get_or s.words (place r) 0

    abbrev ws : List ℕ
    ws = set s.words (place r) (n + 1)

    abbrev w : View
    w = with_lock v r n

    abbrev views : List View
    views = set s.views id w

    same : entries w ≡ entries v
    same = undrawn_entries w drawn ∙ sym (undrawn_entries v drawn)

    here : get_or ws (place r) 0 ≡ n + 1
    here = get_or-set_same s.words (place r) (n + 1) 0 (let l = h.facts.wide in omega arith)

    word : (q : ℕ) → q ≢ r → get_or ws (place q) 0 ≡ get_or s.words (place q) 0
    word q ne = get_or-set_other s.words (place r) (place q) (n + 1) 0 (λ e. ne (let p : 1 + 6 * q ≡ 1 + 6 * r = e in omega arith))

    cell : (q k : ℕ) → k < (1 + b.columns q) → get_or ws (cell_place q k) 0 ≡ get_or s.words (cell_place q k) 0
    cell q k l = get_or-set_other s.words (place r) (cell_place q k) (n + 1) 0 (λ e. let p : 2 + (6 * q + k) ≡ 1 + 6 * r = e in let m = h.facts.narrow q in omega arith)

    zero_same : get_or ws 0 0 ≡ get_or s.words 0 0
    zero_same = get_or-set_other s.words (place r) 0 (n + 1) 0 (λ e. let p : 0 ≡ 1 + 6 * r = e in omega arith)

    stamp : (q : ℕ) → get_or s.words (place q) 0 / 2 ≡ get_or ws (place q) 0 / 2
    stamp q = dite (ℕ_discrete q r) (λ e. subst (λ x. get_or s.words (place x) 0 / 2 ≡ get_or ws (place x) 0 / 2) (sym e) (let x = here in let y : n ≡ get_or s.words (place r) 0 = refl in omega arith)) (λ ne. ap (λ x. x / 2) (sym (word q ne)))

    up : get_or s.words 0 0 ≤ get_or ws 0 0
    up = let z = zero_same in omega arith

    -- nobody holds it
    free : (j : ℕ) (u : View) → get_elem? s.views j ≡ some u → Holds u r → ⊥
    free j u e k = let odd = (h.facts.recs r inside).locks (j, u, e, k) in absurd (omega arith)

    holds_old : (q : ℕ) → Holds w q → q ≢ r → Holds v q
    holds_old q k ne = ⊎_elim
        (λ old. (k.0, (k.1.0, old), k.2))
        (λ (x : (k.1.0 ≡ length v.attempt.held) × (record { rec = r; old = n; stored = [] } ≡ k.0)). absurd (ne (sym k.2 ∙ ap (λ (y : Held). y.rec) (sym x.1))))
        (at_end v.attempt.held _ k.0 k.1.0 k.1.1)

    locks_to : (q : ℕ) → Locks s.views q → Locks views q
    locks_to q x = put (λ u. Holds u q) s.views id v w at (λ k. (k.0, (k.1.0, at_longer v.attempt.held _ k.1.0 k.0 k.1.1), k.2)) x.0 x.1 x.2 x.3

    locks_from : (q : ℕ) → q ≢ r → Locks views q → Locks s.views q
    locks_from q ne x = take_back (λ u. Holds u q) s.views id v w at (λ k. holds_old q k ne) x.0 x.1 x.2 x.3

    installs_to : (q : ℕ) → Installs s.views q → Installs views q
    installs_to q x = let y = put (λ u. Holds u q × IsDecided u.attempt) s.views id v w at (λ p. absurd (undecided v drawn p.1)) x.0 x.1 x.2 (x.3, x.4) in (y.0, y.1, y.2, y.3.0, y.3.1)

    E : Entry → Type 0
    E = Stands s.views

    back : Back b (Stands s.views) (Stands views)
    back = back_same s h id v w at same

    forth : Forth b (Stands s.views) (Stands views)
    forth = forth_same s h id v w at same

    goes : (j : ℕ) (u : View) → get_elem? s.views j ≡ some u → Fits b ws (Stands views) (Installs views) u
    goes j u e = fits_turns b (Stands s.views) (Stands views) back forth s.words ws up (Installs s.views) (Installs views)
        (λ q l. (let z = stamp q in omega arith))
        (λ q l z m k i. cell q k i)
        (λ q _. installs_to q)
        u
        (λ q l k. (sym (stamp q), λ i m. cell q i m))
        (h.facts.each j u e)

    mine : Fits b ws (Stands views) (Installs views) w
    mine = let f = goes id v at in record {
      opened = f.opened;
      counted = f.counted;
      alone = f.alone;
      hands = λ y i. ⊎_elim
          (λ old. let k = f.hands y (i.0, old) in record { inside = k.inside; old = k.old; short = k.short; stored = k.stored; early = λ l. absurd (undecided v drawn (k.early l)); later = k.later })
          (λ (x : (i.0 ≡ length v.attempt.held) × (record { rec = r; old = n; stored = [] } ≡ y)). subst (Hand b ws w) x.1 record {
            inside = inside;
            old = (let z = here in omega arith);
            short = omega arith;
            stored = λ k l. absurd (omega arith);
            early = λ l. absurd (omega arith);
            later = λ t e. absurd (Some≢None t (sym e ∙ drawn));
          })
          (at_end v.attempt.held _ y i.0 i.1);
      once = λ y g i j p q e. ⊎_elim
          (λ old. ⊎_elim
          (λ old'. f.once y g i j old old' e)
          (λ (x : (j ≡ length v.attempt.held) × (record { rec = r; old = n; stored = [] } ≡ g)). absurd (free id v at (y, (i, old), e ∙ ap (λ (z : Held). z.rec) (sym x.1))))
          (at_end v.attempt.held _ g j q))
          (λ (x : (i ≡ length v.attempt.held) × (record { rec = r; old = n; stored = [] } ≡ y)). ⊎_elim
          (λ old'. absurd (free id v at (g, (j, old'), sym e ∙ ap (λ (z : Held). z.rec) (sym x.1))))
          (λ (x' : (j ≡ length v.attempt.held) × (record { rec = r; old = n; stored = [] } ≡ g)). x.0 ∙ sym x'.0)
          (at_end v.attempt.held _ g j q))
          (at_end v.attempt.held _ y i p);
      undrawn = f.undrawn;
      unclosed = λ y i. absurd (undecided v drawn (f.unclosed y i));
      differ = λ e g i j p q. f.differ e g i j (subst (λ l. get_elem? l i ≡ some e) same p) (subst (λ l. get_elem? l j ≡ some g) same q);
      drew = subst (λ l. length l ≤ v.draws) (sym same) f.drew;
    }

    sides : (j : ℕ) (u : View) → j ≢ id → get_elem? s.views j ≡ some u → Apart w u × Apart u w
    sides j u p e =
        let a = h.facts.apart id j v u (λ z. p (sym z)) at e in
        let c = h.facts.apart j id u v p e at in
        let none : (q : ℕ) → Holds w q → Holds u q → ⊥ = (λ (q : ℕ) (k : Holds w q) (m : Holds u q). dite (ℕ_discrete q r) (λ z. free j u e (subst (Holds u) z m)) (λ ne. a.records q (holds_old q k ne) m)) in (
          record { records = none; stamps = λ x y i k. a.stamps x y (subst (In x) same i) k },
          record { records = λ q m k. none q k m; stamps = λ x y i k. c.stamps x y i (subst (In y) same k) },
        )

    pub locks : Kept b record { words = ws; homes = s.homes; views = views }
    locks = record {
      facts = record {
        wide = length-set s.words (place r) (n + 1) ∙ h.facts.wide;
        recs = λ q l. dite (ℕ_discrete q r)
            (λ e. subst (Rec b ws (Stands views) (Locks views) (Installs views)) (sym e) new_rec)
            (λ ne. rec_turns b (Stands s.views) (Stands views) back forth s.words ws up (Locks s.views) (Installs s.views) (Locks views) (Installs views) q (word q ne) (cell q) (locks_to q) (locks_from q ne) (installs_to q) (same_same s h id v w at same q) (h.facts.recs q l));
        ents = λ e x. ent_turns b (Stands s.views) (Stands views) back forth s.words ws up e (to_old s h id v w at same e x) (h.facts.ents e (to_old s h id v w at same e x));
        each = each_set (λ j u. Fits b ws (Stands views) (Installs views) u) s.views id w (λ j u _ e. goes j u e) mine;
        apart = pairs_set Apart s.views id w h.facts.apart sides;
        opening = h.facts.opening;
        narrow = h.facts.narrow;
      };
      next = zero_same ∙ (h.next ∙ ap (λ m. 2 + m) (sym (sum_set b (λ u. u.draws) s.views id v w at refl)));
      whole = (let a = h.whole in let d = sum_set b (λ u. u.draws) s.views id v w at refl in let t = sum_set b (λ u. u.tries) s.views id v w at refl in omega arith);
      few = h.few;
    }
      where
        new_rec : Rec b ws (Stands views) (Locks views) (Installs views) r
        new_rec = let c = h.facts.recs r inside in record {
          locked = λ _. put_own;
          locks = λ _. (let z = here in omega arith);
          row = c.row;
          version = subst (λ t. Version b (Stands views) r t c.row) (stamp r) (version_turns b (Stands s.views) (Stands views) back forth r (n / 2) c.row c.version);
          shown = λ no_one. let sh = c.shown (λ i. no_one (installs_to r i)) in (sh.0, λ k l. cell r k l ∙ sh.1 k l);
          newest = λ e cells x d k. subst (λ t. e.stamp ≤ t) (stamp r) (c.newest e cells (to_old s h id v w at same e x) d k);
          below = (let z = zero_same in let t = stamp r in let l = c.below in omega arith);
        }
          where
            put_own : Locks views r
            put_own = (id, w, set_here s.views id w (at_below s.views v id at), (record { rec = r; old = n; stored = [] }, (length v.attempt.held + 0, at_behind v.attempt.held _ 0 _ refl), refl))

  pub takes : (slots id : ℕ) (me : Mine) (r : ℕ) → r < b.records → me.0.attempt.drawn ≡ None → Allows (Kept b) slots id me (place r) (λ n. bit_or n 1) (Lock (step slots (place r) 1 0 none) me)
  takes slots id me r inside drawn s h _ at _ =
      let v = me.0 in
      let n = get_or s.words (place r) 0 in
      dite (ℕ_discrete (n % 2) 1)
      (λ odd.
      let x = locked_at r n in
      let k = stop_keeps s.words (Stands s.views) (Installs s.views) v x v.attempt.held refl drawn (h.facts.each id v at) in
      let w = stopped v.attempt.held v x in (
        w,
        keeps,
        tt,
        subst (λ ws. Kept b record { words = ws; homes = s.homes; views = set s.views id w }) (sym (set-get_or s.words (place r) 0) ∙ ap (set s.words (place r)) (sym (set_locked n odd)))
            (quiet_rule b s id v w h at k.0 (counts v x v.attempt.held).0 (counts v x v.attempt.held).1 k.1),
        λ q e. (refl, (λ _. ap (λ z. stopped v.attempt.held v (locked_at z n)) (let p : 1 + 6 * r ≡ 1 + 6 * q = e in omega arith)), (λ even. absurd (omega arith))),
      ))
      (λ ne.
      let even : n % 2 ≡ 0 = omega arith in
      let w = with_lock v r n in (
        w,
        keeps,
        tt,
        subst (λ m. Kept b record { words = set s.words (place r) m; homes = s.homes; views = set s.views id w }) (sym (set_free n even)) (locks s h id v at r inside drawn even),
        λ q e. (refl, (λ odd. absurd (ne odd)), (λ _. ap (λ z. with_lock v z n) (let p : 1 + 6 * r ≡ 1 + 6 * q = e in omega arith))),
      ))
    where
      counts : (v : View) (x : Refused) (hs : List Held) → ((stopped hs v x).draws ≡ v.draws) × ((stopped hs v x).tries ≡ v.tries)
      counts v x [] = (refl, refl)
      counts v x (h ∷ hs) = (refl, refl)

pub stop_tries : (v : View) (x : Refused) → (stopped v.attempt.held v x).tries ≡ v.tries
stop_tries v x = go v.attempt.held
  where
    go : (hs : List Held) → (stopped hs v x).tries ≡ v.tries
    go [] = refl
    go (h ∷ hs) = refl
