-- Rest, split and join keep the rule.
use Rattle.std.proofs.Common.{◌≡◌, ◌≢◌, ◌⊎◌, ℕ, zero, suc, ◌+◌, ◌≤◌, List, [], ◌∷◌, ◌++◌, map, length, get_or, set, refl, sym, ap, ◌∙◌, subst, inl, inr, ⊎_elim, arith, length-append}
use Rattle.std.specs.Prelude.{sum_by, Option, Some, None}
use Rattle.std.proofs.lemmas.List.Sums.{sum_by_push}
use mathlib.Core.List.{map-append}
use mathlib.Core.Logic.{dite}
use mathlib.Core.Option.{some, none, some-injective}
use native.Mathlib.Decide.{ℕ_discrete}
use lib.ListN.{get_elem?}
use lib.Seq.{set-get_or}
use Rattle.atomic_table.specs.Table.{step, keeps, Allows, Splits, Joins}
use Rattle.atomic_table.proofs.Lists.{at_longer, at_set, set_here, set_else}
use Rattle.rl_store.specs.declared.view.Attempt.{Attempt}
use Rattle.rl_store.specs.declared.view.View.{View}
use Rattle.rl_store.specs.Entries.{In, Entry, entries, drawn_entry, of_item, of_attempt, Decided, Stands, Holds, IsDecided, Installs}
use Rattle.rl_store.specs.Layout.{Opening}
use Rattle.rl_store.specs.Rule.{Shared}
use Rattle.rl_store.proofs.Grouped.{Fits, Apart, Facts, Kept}
use Rattle.rl_store.specs.Views.{blank, rested, split_left, split_right, joined, spent}
use Rattle.rl_store.specs.Steps.{Mine, Rest}
use Rattle.rl_store.proofs.Views.{Pairs, at_end, at_below, each_set, pairs_set, sum_put}
use Rattle.rl_store.proofs.Quiet.{quiet, quiet_rule, quiet_more, transport}
use Rattle.rl_store.proofs.Loads.{Some≢None, nowhere}

pub append_none : {A : Type 0} (xs : List A) → xs ++ [] ≡ xs
append_none [] = refl
append_none (x ∷ xs) = λ i. x ∷ append_none xs i

pub at_append : {A : Type 0} (xs ys : List A) (i : ℕ) (a : A) → get_elem? (xs ++ ys) i ≡ some a → (get_elem? xs i ≡ some a) ⊎ ((k : ℕ) × (i ≡ length xs + k) × (get_elem? ys k ≡ some a))
at_append [] ys i a e = inr (i, omega arith, e)
at_append (x ∷ xs) ys zero a e = inl e
at_append (x ∷ xs) ys (suc i) a e = ⊎_elim (λ h. inl h) (λ t. let k = t.1 in inr (t.0, omega arith, t.2)) (at_append xs ys i a e)

set_swap : {A : Type 0} (xs : List A) (i j : ℕ) (a c : A) → i ≢ j → set (set xs i a) j c ≡ set (set xs j c) i a
set_swap [] i j a c n = refl
set_swap (x ∷ xs) zero zero a c n = absurd (n refl)
set_swap (x ∷ xs) zero (suc j) a c n = refl
set_swap (x ∷ xs) (suc i) zero a c n = refl
set_swap (x ∷ xs) (suc i) (suc j) a c n = λ k. x ∷ set_swap xs i j a c (λ e. n (ap suc e)) k

pub at_behind : {A : Type 0} (xs ys : List A) (k : ℕ) (a : A) → get_elem? ys k ≡ some a → get_elem? (xs ++ ys) (length xs + k) ≡ some a
at_behind {A = A} [] ys k a e = let z : length {A = A} [] + k ≡ k = omega arith in subst (λ n. get_elem? ys n ≡ some a) (sym z) e
at_behind (x ∷ xs) ys k a e = let z : length (x ∷ xs) + k ≡ suc (length xs + k) = omega arith in subst (λ n. get_elem? ((x ∷ xs) ++ ys) n ≡ some a) (sym z) (at_behind xs ys k a e)

module _ (b : Opening) where
  -- a view that has no entry but items and holds nothing
  pub keeps_decided : (a : Attempt) (xs : List Entry) (d : Option ℕ) (e : Entry) → ((t : ℕ) → d ≡ Some t → Decided (of_attempt a t) → ⊥) → In e (xs ++ drawn_entry a d) → Decided e → In e (xs ++ [])
  keeps_decided a xs None e bad i dec = i
  keeps_decided a xs (Some t) e bad i dec = ⊎_elim
      (λ (x : get_elem? xs i.0 ≡ some e). (i.0, subst (λ l. get_elem? l i.0 ≡ some e) (sym (append_none xs)) x))
      (λ (x : (i.0 ≡ length xs) × (of_attempt a t ≡ e)). absurd (bad t refl (subst Decided (sym x.1) dec)))
      (at_end xs (of_attempt a t) e i.0 i.1)

  -- an attempt that holds nothing and isn't decided is over
  pub rests_kept : (s : Shared) → Kept b s → (id : ℕ) (v : View) → get_elem? s.views id ≡ some v → v.attempt.held ≡ [] → (IsDecided v.attempt → ⊥) → Kept b record { words = s.words; homes = s.homes; views = set s.views id (rested v) }
  rests_kept s h id v at held undecided =
      let w = rested v in
      let f = h.facts.each id v at in
      let xs = map of_item v.items in
      let old : (e : Entry) (i : ℕ) → get_elem? (xs ++ []) i ≡ some e → get_elem? (entries v) i ≡ some e = (λ e i p. at_longer xs (drawn_entry v.attempt v.attempt.drawn) i e (subst (λ l. get_elem? l i ≡ some e) (append_none xs) p)) in
      quiet_rule b s id v w h at
      record {
        keep = λ e i d. keeps_decided v.attempt xs v.attempt.drawn e (λ t p q. undecided (t, p, q)) i d;
        sub = λ e i. (i.0, old e i.0 i.1);
        there = λ r x. absurd (nowhere x.0 v.attempt.held held x.1);
        back = λ r x. absurd (nowhere x.0 [] refl x.1);
        installs = λ r x. absurd (nowhere x.0 v.attempt.held held x.1);
      }
      refl refl
      record {
        opened = λ y e. absurd (Some≢None y (sym e));
        counted = λ y i. absurd (nowhere y [] refl i);
        alone = λ y z i. absurd (nowhere y [] refl i);
        hands = λ y i. absurd (nowhere y [] refl i);
        once = λ y g i j p q e. absurd (nowhere y [] refl (i, p));
        undrawn = λ e. refl;
        unclosed = λ y i. absurd (nowhere y [] refl i);
        differ = λ e g i j p q. f.differ e g i j (old e i p) (old g j q);
        drew = (let a = f.drew in let l = length-append xs (drawn_entry v.attempt v.attempt.drawn) in let m = length-append xs [] in omega arith);
      }

  pub rests : (slots id : ℕ) (me : Mine) → me.0.attempt.held ≡ [] → (IsDecided me.0.attempt → ⊥) → Allows (Kept b) slots id me 0 (λ n. n) (Rest (step slots 0 0 0 none) me)
  rests slots id me held undecided s h _ at _ =
      let w = rested me.0 in (
        w,
        keeps,
        tt,
        subst (λ ws. Kept b record { words = ws; homes = s.homes; views = set s.views id w }) (sym (set-get_or s.words 0 0)) (rests_kept s h id me.0 at held undecided),
        (refl, refl, (let a = h.whole in let f' = h.few in let p = sum_put (λ u. u.tries) s.views id me.0 spent at in omega arith)),
      )

  pub splits : (id n : ℕ) (v : View) → n ≤ v.tries → Splits (Kept b) id v (split_left n v) (split_right n v)
  splits id n v enough s h at =
      let a = split_left n v in
      let c = split_right n v in
      let f = h.facts.each id v at in
      let mid : Shared = record { words = s.words; homes = s.homes; views = set s.views id a } in
      let one : Facts b mid = quiet b s id v a h.facts at
      record { keep = λ e i d. i; sub = λ e i. i; there = λ r x. x; back = λ r x. x; installs = λ r x d. (x, d) }
      record { opened = f.opened; counted = f.counted; alone = f.alone; hands = λ x i. let k = f.hands x i in record { inside = k.inside; old = k.old; short = k.short; stored = k.stored; early = k.early; later = k.later }; once = f.once; undrawn = f.undrawn; unclosed = f.unclosed; differ = f.differ; drew = f.drew } in
      let two : Facts b record { words = s.words; homes = s.homes; views = mid.views ++ c ∷ [] } = quiet_more b mid c one (λ e i. nowhere e [] refl i) (λ r x. nowhere x.0 [] refl x.1)
      record {
        opened = λ y e. absurd (Some≢None y (sym e));
        counted = λ y i. absurd (nowhere y [] refl i);
        alone = λ y z i. absurd (nowhere y [] refl i);
        hands = λ y i. absurd (nowhere y [] refl i);
        once = λ y g i j p q e. absurd (nowhere y [] refl (i, p));
        undrawn = λ e. refl;
        unclosed = λ y i. absurd (nowhere y [] refl i);
        differ = λ e g i j p q. absurd (nowhere e [] refl (i, p));
        drew = omega arith;
      } in
      let d1 = sum_put (λ u. u.draws) s.views id v a at in
      let d2 = sum_by_push (λ (u : View). u.draws) mid.views c in
      let t1 = sum_put (λ u. u.tries) s.views id v a at in
      let t2 = sum_by_push (λ (u : View). u.tries) mid.views c in
      record {
        facts = two;
        next = (let x = h.next in omega arith);
        whole = (let x = h.whole in omega arith);
        few = h.few;
      }

  module _ (v w : View) (vr : v.attempt ≡ blank) (wr : w.attempt ≡ blank) where
    A : List Entry
    A = map of_item v.items

    B : List Entry
    B = map of_item w.items

    rest_entries : (u : View) → u.attempt ≡ blank → entries u ≡ map of_item u.items
    rest_entries u e = ap (λ a. map of_item u.items ++ drawn_entry a a.drawn) e ∙ append_none (map of_item u.items)

    x_entries : entries (joined v w) ≡ A ++ B
    unfolding A B
    x_entries = rest_entries (joined v w) vr ∙ map-append of_item v.items w.items

    free : (u : View) (r : ℕ) → u.attempt ≡ blank → Holds u r → ⊥
    free u r e k = nowhere k.0 u.attempt.held (ap (λ a. a.held) e) k.1

    in_left : (e : Entry) → In e (entries v) → In e (entries (joined v w))
    unfolding A B
    in_left e i = (i.0, subst (λ l. get_elem? l i.0 ≡ some e) (sym x_entries) (at_longer A B i.0 e (subst (λ l. get_elem? l i.0 ≡ some e) (rest_entries v vr) i.1)))

    in_right : (e : Entry) → In e (entries w) → In e (entries (joined v w))
    unfolding A B
    in_right e i = (length A + i.0, subst (λ l. get_elem? l (length A + i.0) ≡ some e) (sym x_entries) (at_behind A B i.0 e (subst (λ l. get_elem? l i.0 ≡ some e) (rest_entries w wr) i.1)))

    parts : (e : Entry) → In e (entries (joined v w)) → In e (entries v) ⊎ In e (entries w)
    unfolding A B
    parts e i = ⊎_elim
        (λ p. inl (i.0, subst (λ l. get_elem? l i.0 ≡ some e) (sym (rest_entries v vr)) p))
        (λ (p : (k : ℕ) × (i.0 ≡ length A + k) × (get_elem? B k ≡ some e)). inr (p.0, subst (λ l. get_elem? l p.0 ≡ some e) (sym (rest_entries w wr)) p.2))
        (at_append A B i.0 e (subst (λ l. get_elem? l i.0 ≡ some e) x_entries i.1))

    x_differ : (ws : List ℕ) (E : Entry → Type 0) (I : ℕ → Type 0) → Fits b ws E I v → Fits b ws E I w → Apart v w → (e f : Entry) (i j : ℕ) → get_elem? (entries (joined v w)) i ≡ some e → get_elem? (entries (joined v w)) j ≡ some f → e.stamp ≡ f.stamp → i ≡ j
    unfolding A B
    x_differ ws E I fv fw ap' e f i j p q same =
        let ev = rest_entries v vr in
        let ew = rest_entries w wr in
        ⊎_elim
        (λ (l : get_elem? A i ≡ some e). ⊎_elim
        (λ (m : get_elem? A j ≡ some f). fv.differ e f i j (subst (λ l. get_elem? l i ≡ some e) (sym ev) l) (subst (λ l. get_elem? l j ≡ some f) (sym ev) m) same)
        (λ (m : (k : ℕ) × (j ≡ length A + k) × (get_elem? B k ≡ some f)). absurd (ap'.stamps e f (i, subst (λ l. get_elem? l i ≡ some e) (sym ev) l) (m.0, subst (λ l. get_elem? l m.0 ≡ some f) (sym ew) m.2) same))
        (at_append A B j f (subst (λ l. get_elem? l j ≡ some f) x_entries q)))
        (λ (l : (k : ℕ) × (i ≡ length A + k) × (get_elem? B k ≡ some e)). ⊎_elim
        (λ (m : get_elem? A j ≡ some f). absurd (ap'.stamps f e (j, subst (λ l. get_elem? l j ≡ some f) (sym ev) m) (l.0, subst (λ z. get_elem? z l.0 ≡ some e) (sym ew) l.2) (sym same)))
        (λ (m : (k : ℕ) × (j ≡ length A + k) × (get_elem? B k ≡ some f)). l.1 ∙ ap (λ n. length A + n) (fw.differ e f l.0 m.0 (subst (λ z. get_elem? z l.0 ≡ some e) (sym ew) l.2) (subst (λ z. get_elem? z m.0 ≡ some f) (sym ew) m.2) same) ∙ sym m.1)
        (at_append A B j f (subst (λ l. get_elem? l j ≡ some f) x_entries q)))
        (at_append A B i e (subst (λ l. get_elem? l i ≡ some e) x_entries p))

    x_length : length (entries (joined v w)) ≡ length (entries v) + length (entries w)
    unfolding A B
    x_length = ap length x_entries ∙ (length-append A B ∙ sym (λ i. length (rest_entries v vr i) + length (rest_entries w wr i)))

    pub joins : (id other : ℕ) → Joins (Kept b) id v other w (joined v w) spent
    joins id other s h at apart there = record { facts = facts; next = next; whole = whole; few = h.few }
      where
        x : View
        x = joined v w

        theirs : get_elem? s.views other ≡ some w
        theirs = ⊎_elim (λ (t : (other ≡ id) × (x ≡ w)). absurd (apart t.0)) (λ (t : (other ≢ id) × (get_elem? s.views other ≡ some w)). t.1) (at_set s.views id other x w there)

        one : List View
        one = set s.views id x

        views : List View
        views = set one other spent

        there' : get_elem? one other ≡ some w
        there' = there

        now : (j : ℕ) (u : View) → get_elem? s.views j ≡ some u → j ≢ id → j ≢ other → get_elem? views j ≡ some u
        now j u e p q = set_else one other j spent q ∙ (set_else s.views id j x p ∙ e)

        now_x : get_elem? views id ≡ some x
        now_x = set_else one other id spent (λ e. apart (sym e)) ∙ set_here s.views id x (at_below s.views v id at)

        was : (P : View → Type 0) → (P spent → ⊥) → (P x → P v ⊎ P w) → (j : ℕ) (u : View) → get_elem? views j ≡ some u → P u → (k : ℕ) × (y : View) × (get_elem? s.views k ≡ some y) × P y
        was P bad back j u e p = ⊎_elim
            (λ (t : (j ≡ other) × (spent ≡ u)). absurd (bad (subst P (sym t.1) p)))
            (λ (t : (j ≢ other) × (get_elem? one j ≡ some u)). ⊎_elim
            (λ (r : (j ≡ id) × (x ≡ u)). ⊎_elim (λ a. (id, v, at, a)) (λ a. (other, w, theirs, a)) (back (subst P (sym r.1) p)))
            (λ (r : (j ≢ id) × (get_elem? s.views j ≡ some u)). (j, u, r.1, p))
            (at_set s.views id j x u t.1))
            (at_set one other j spent u e)

        goes : (P : View → Type 0) → (P v → P x) → (P w → P x) → (j : ℕ) (u : View) → get_elem? s.views j ≡ some u → P u → (k : ℕ) × (y : View) × (get_elem? views k ≡ some y) × P y
        goes P left right j u e p = dite (ℕ_discrete j id)
            (λ same. (id, x, now_x, left (subst P (some-injective u v (sym e ∙ (ap (get_elem? s.views) same ∙ at))) p)))
            (λ p'. dite (ℕ_discrete j other)
            (λ same. (id, x, now_x, right (subst P (some-injective u w (sym e ∙ (ap (get_elem? s.views) same ∙ theirs))) p)))
            (λ q. (j, u, now j u e p' q, p)))

        fv : Fits b s.words (Stands s.views) (Installs s.views) v
        fv = h.facts.each id v at

        fw : Fits b s.words (Stands s.views) (Installs s.views) w
        fw = h.facts.each other w theirs

        ap' : Apart v w
        ap' = h.facts.apart id other v w (λ e. apart (sym e)) at theirs

        x_fits : Fits b s.words (Stands s.views) (Installs s.views) x
        x_fits = record {
          opened = fv.opened;
          counted = fv.counted;
          alone = fv.alone;
          hands = λ y i. absurd (free v y.rec vr (y, i, refl));
          once = fv.once;
          undrawn = fv.undrawn;
          unclosed = fv.unclosed;
          differ = x_differ s.words (Stands s.views) (Installs s.views) fv fw ap';
          drew = (let a = fv.drew in let c = fw.drew in let l = x_length in omega arith);
        }

        spent_fits : Fits b s.words (Stands s.views) (Installs s.views) spent
        spent_fits = record {
          opened = λ y e. absurd (Some≢None y (sym e));
          counted = λ y i. absurd (nowhere y [] refl i);
          alone = λ y z i. absurd (nowhere y [] refl i);
          hands = λ y i. absurd (nowhere y [] refl i);
          once = λ y g i j p q e. absurd (nowhere y [] refl (i, p));
          undrawn = λ e. refl;
          unclosed = λ y i. absurd (nowhere y [] refl i);
          differ = λ e g i j p q. absurd (nowhere e [] refl (i, p));
          drew = omega arith;
        }

        sides : (j : ℕ) (u : View) → j ≢ id → get_elem? (set s.views other spent) j ≡ some u → Apart x u × Apart u x
        sides j u p e = ⊎_elim
            (λ (t : (j ≡ other) × (spent ≡ u)). subst (λ y. Apart x y × Apart y x) t.1 (
              record { records = λ r k l. free spent r refl l; stamps = λ a c k l. absurd (nowhere c [] refl l) },
              record { records = λ r k l. free spent r refl k; stamps = λ a c k l. absurd (nowhere a [] refl k) },
            ))
            (λ (t : (j ≢ other) × (get_elem? s.views j ≡ some u)).
            let a = h.facts.apart id j v u (λ z. p (sym z)) at t.1 in
            let c = h.facts.apart other j w u (λ z. t.0 (sym z)) theirs t.1 in (
              record { records = λ r k l. free x r vr k; stamps = λ e f k l. ⊎_elim (λ i. a.stamps e f i l) (λ i. c.stamps e f i l) (parts e k) },
              record { records = λ r k l. free x r vr l; stamps = λ e f k l same. ⊎_elim (λ i. a.stamps f e i k (sym same)) (λ i. c.stamps f e i k (sym same)) (parts f l) },
            ))
            (at_set s.views other j spent u e)

        pairs : Pairs Apart views
        pairs = subst (Pairs Apart) (set_swap s.views other id spent x apart)
            (pairs_set Apart (set s.views other spent) id x
            (pairs_set Apart s.views other spent h.facts.apart (λ j u p e. (
              record { records = λ r k l. free spent r refl k; stamps = λ a c k l. absurd (nowhere a [] refl k) },
              record { records = λ r k l. free spent r refl l; stamps = λ a c k l. absurd (nowhere c [] refl l) },
            )))
            sides)

        facts : Facts b record { words = s.words; homes = s.homes; views = views }
        facts = transport b s views h.facts
            (λ e y d. goes (λ u. In e (entries u)) (in_left e) (in_right e) y.0 y.1 y.2 y.3)
            (λ e y. was (λ u. In e (entries u)) (λ i. nowhere e [] refl i) (parts e) y.0 y.1 y.2 y.3)
            (λ r y. goes (λ u. Holds u r) (λ p. absurd (free v r vr p)) (λ p. absurd (free w r wr p)) y.0 y.1 y.2 y.3)
            (λ r y. was (λ u. Holds u r) (λ p. free spent r refl p) (λ p. absurd (free x r vr p)) y.0 y.1 y.2 y.3)
            (λ r y. let z = goes (λ u. Holds u r × IsDecided u.attempt) (λ p. absurd (free v r vr p.0)) (λ p. absurd (free w r wr p.0)) y.0 y.1 y.2 (y.3, y.4) in (z.0, z.1, z.2, z.3.0, z.3.1))
            (each_set (λ j u. Fits b s.words (Stands s.views) (Installs s.views) u) one other spent
            (λ j u _ e. each_set (λ k y. Fits b s.words (Stands s.views) (Installs s.views) y) s.views id x (λ k y _ g. h.facts.each k y g) x_fits j u e)
            spent_fits)
            pairs

        next : get_or s.words 0 0 ≡ 2 + sum_by (λ (u : View). u.draws) views
        next =
            let p = sum_put (λ u. u.draws) s.views id v x at in
            let q = sum_put (λ u. u.draws) one other w spent there' in
            let a = h.next in
            omega arith

        whole : sum_by (λ (u : View). u.draws) views + sum_by (λ (u : View). u.tries) views ≡ b.total
        whole =
            let p = sum_put (λ u. u.draws) s.views id v x at in
            let q = sum_put (λ u. u.draws) one other w spent there' in
            let p' = sum_put (λ u. u.tries) s.views id v x at in
            let q' = sum_put (λ u. u.tries) one other w spent there' in
            let a = h.whole in
            omega arith
