-- The loads of a read keep the rule.
use Rattle.std.proofs.Common.{◌≡◌, ◌≢◌, ℕ, zero, suc, ◌+◌, ◌*◌, ◌/◌, ◌%◌, ◌<◌, ◌≤◌, List, [], ◌∷◌, ◌++◌, map, length, get_or, set, refl, sym, ap, ◌∙◌, subst, ⊎_elim, arith, length-append, le_refl}
use Rattle.std.specs.Prelude.{Some, None}
use mathlib.Core.Logic.{dite}
use mathlib.Core.Option.{some, none, some-ne-none}
use native.Mathlib.Decide.{ℕ_discrete}
use lib.ListN.{get_elem?}
use lib.Seq.{set-get_or}
use Rattle.atomic_table.specs.Table.{step, keeps, Allows}
use Rattle.rl_store.specs.declared.view.Reading.{Reading}
use Rattle.rl_store.specs.declared.view.Read.{Read}
use Rattle.rl_store.specs.declared.view.Write.{Write}
use Rattle.rl_store.specs.declared.view.Refused.{Refused}
use Rattle.rl_store.specs.declared.view.View.{View}
use Rattle.rl_store.specs.Entries.{In, Entry, RowOf, entries, drawn_entry, of_item, Stands, IsDecided, Installs}
use Rattle.rl_value.specs.Cells.{cells_of, row_of}
use Rattle.rl_store.specs.Layout.{Opening, place, cell_place, Version}
use Rattle.rl_store.specs.Rule.{Shared}
use Rattle.rl_store.proofs.Grouped.{Fits, Open, Kept}
use Rattle.rl_store.specs.Views.{refused, locked_at, changed_at, begun, loaded, with_read}
use Rattle.rl_store.specs.Steps.{Mine, FirstLoad, ColumnLoad, Confirm}
use Rattle.rl_store.proofs.Views.{at_end}
use Rattle.rl_store.proofs.Quiet.{Quiet, quiet_rule}

pub Some≢None : {A : Type 0} (x : A) → Some x ≡ None → ⊥
Some≢None x e = absurd (cc)

pub Some-injective : {A : Type 0} (x y : A) → Some x ≡ Some y → x ≡ y
Some-injective x y e = cc

pub nowhere : {A : Type 0} (x : A) (xs : List A) → xs ≡ [] → In x xs → ⊥
nowhere x xs e i = some-ne-none x (sym (subst (λ l. get_elem? l i.0 ≡ some x) e i.1))

-- neither has drawn nor holds a record, and they have the same items
pub record Still (v w : View) : Type 0 where
  pub items : w.items ≡ v.items
  pub drawn : v.attempt.drawn ≡ None
  pub drawn' : w.attempt.drawn ≡ None
  pub held : v.attempt.held ≡ []
  pub held' : w.attempt.held ≡ []
  pub draws : w.draws ≡ v.draws
  pub tries : w.tries ≡ v.tries

pub still_entries : (v w : View) → Still v w → entries w ≡ entries v
still_entries v w s = ap (λ d. map of_item w.items ++ drawn_entry w.attempt d) s.drawn' ∙ ap (λ l. map of_item l ++ []) s.items ∙ sym (ap (λ d. map of_item v.items ++ drawn_entry v.attempt d) s.drawn)

pub still_quiet : (v w : View) → Still v w → Quiet v w
still_quiet v w s = let same = still_entries v w s in record {
  keep = λ e i d. subst (In e) (sym same) i;
  sub = λ e i. subst (In e) same i;
  there = λ r h. absurd (nowhere h.0 v.attempt.held s.held h.1);
  back = λ r h. absurd (nowhere h.0 w.attempt.held s.held' h.1);
  installs = λ r h. absurd (nowhere h.0 v.attempt.held s.held h.1);
}

pub more_same : (cells : List ℕ) (n k : ℕ) (F : ℕ → ℕ) → ((k : ℕ) → k < length cells → get_or cells k 0 ≡ F k) → n ≡ F (length cells) → k < length (cells ++ n ∷ []) → get_or (cells ++ n ∷ []) k 0 ≡ F k
more_same [] n zero F old e l = e
more_same [] n (suc k) F old e l = absurd (omega arith)
more_same (c ∷ cells) n zero F old e l = old 0 (omega arith)
more_same (c ∷ cells) n (suc k) F old e l = more_same cells n k (λ j. F (suc j)) (λ j m. old (suc j) (omega arith)) e (omega arith)

pub same_cells : (xs ys : List ℕ) (n : ℕ) → length xs ≡ n → length ys ≡ n → ((k : ℕ) → k < n → get_or xs k 0 ≡ get_or ys k 0) → xs ≡ ys
same_cells [] [] n p q e = refl
same_cells [] (y ∷ ys) n p q e = absurd (omega arith)
same_cells (x ∷ xs) [] n p q e = absurd (omega arith)
same_cells (x ∷ xs) (y ∷ ys) n p q e =
    let head : x ≡ y = e 0 (omega arith) in
    let tail = same_cells xs ys (length xs) refl (omega arith) (λ k l. e (suc k) (omega arith)) in
    λ i. head i ∷ tail i

-- the row that a row's cells stand for is it
pub row_back : (columns : ℕ) (row : RowOf) → row_of (cells_of columns row) ≡ row
row_back columns None = refl
row_back columns (Some row) = refl

one_more : (reads : List Read) (new : Read) → ((x y : Read) → In x reads → In y reads → x.rec ≡ y.rec → x ≡ y) → ((y : Read) → In y reads → y.rec ≢ new.rec) → (x y : Read) → In x (reads ++ new ∷ []) → In y (reads ++ new ∷ []) → x.rec ≡ y.rec → x ≡ y
one_more reads new alone unseen x y i j e = ⊎_elim
    (λ old. ⊎_elim
    (λ old'. alone x y (i.0, old) (j.0, old') e)
    (λ (z : (j.0 ≡ length reads) × (new ≡ y)). absurd (unseen x (i.0, old) (e ∙ sym (ap (λ (u : Read). u.rec) z.1))))
    (at_end reads new y j.0 j.1))
    (λ (z : (i.0 ≡ length reads) × (new ≡ x)). ⊎_elim
    (λ old'. absurd (unseen y (j.0, old') (sym e ∙ sym (ap (λ (u : Read). u.rec) z.1))))
    (λ (z' : (j.0 ≡ length reads) × (new ≡ y)). sym z.1 ∙ z'.1)
    (at_end reads new y j.0 j.1))
    (at_end reads new x i.0 i.1)

module _ (b : Opening) where
  pub still_fits : (ws : List ℕ) (E : Entry → Type 0) (I : ℕ → Type 0) (v w : View) → Still v w → Fits b ws E I v
      → ((x : Reading) → w.attempt.reading ≡ Some x → Open b ws I x)
      → ((x : Read) → In x w.attempt.reads → Version b E x.rec x.stamp x.row × (x.stamp ≤ get_or ws (place x.rec) 0 / 2) × (x.rec < b.records))
      → ((x y : Read) → In x w.attempt.reads → In y w.attempt.reads → x.rec ≡ y.rec → x ≡ y)
      → w.attempt.validated ≡ [] → ((x : Write) → In x w.attempt.closed → ⊥) → Fits b ws E I w
  still_fits ws E I v w s f opened counted alone validated closed = let same = still_entries v w s in record {
    opened = opened;
    counted = counted;
    alone = alone;
    hands = λ h i. absurd (nowhere h w.attempt.held s.held' i);
    once = λ h g i j p q e. absurd (nowhere h w.attempt.held s.held' (i, p));
    undrawn = λ e. validated;
    unclosed = λ x i. absurd (closed x i);
    differ = λ e g i j p q. f.differ e g i j (subst (λ l. get_elem? l i ≡ some e) same p) (subst (λ l. get_elem? l j ≡ some g) same q);
    drew = subst (λ l. length l ≤ w.draws) (sym same) (subst (λ n. length (entries v) ≤ n) (sym s.draws) f.drew);
  }

  -- a load that makes w of the view
  pub loads : (s : Shared) (id i : ℕ) (v w : View) → Kept b s → get_elem? s.views id ≡ some v → Still v w → Fits b s.words (Stands s.views) (Installs s.views) w
      → Kept b record { words = set s.words i (get_or s.words i 0); homes = s.homes; views = set s.views id w }
  loads s id i v w h at still fits = subst (λ ws. Kept b record { words = ws; homes = s.homes; views = set s.views id w }) (sym (set-get_or s.words i 0)) (quiet_rule b s id v w h at (still_quiet v w still) still.draws still.tries fits)

  undecided : (v : View) → v.attempt.drawn ≡ None → IsDecided v.attempt → ⊥
  undecided v e d = Some≢None d.0 (sym d.1 ∙ e)

  gives_up : (v : View) (x : Refused) → v.attempt.drawn ≡ None → v.attempt.held ≡ [] → Still v (refused v x)
  gives_up v x d h = record { items = refl; drawn = d; drawn' = refl; held = h; held' = refl; draws = refl; tries = refl }

  gives_up_fits : (ws : List ℕ) (E : Entry → Type 0) (I : ℕ → Type 0) (v : View) (x : Refused) → v.attempt.drawn ≡ None → v.attempt.held ≡ [] → Fits b ws E I v → Fits b ws E I (refused v x)
  gives_up_fits ws E I v x d h f = still_fits ws E I v (refused v x) (gives_up v x d h) f (λ y e. absurd (Some≢None y (sym e))) (λ y i. absurd (nowhere y [] refl i)) (λ y z i. absurd (nowhere y [] refl i)) refl (λ y i. nowhere y [] refl i)

  pub looks_first : (slots id : ℕ) (me : Mine) (r : ℕ) → r < b.records → me.0.attempt.drawn ≡ None → me.0.attempt.held ≡ []
      → Allows (Kept b) slots id me (place r) (λ n. n) (FirstLoad (step slots (place r) 0 0 none) me)
  looks_first slots id me r inside drawn held s h _ at _ =
      let v = me.0 in
      let n = get_or s.words (place r) 0 in
      let f = h.facts.each id v at in
      dite (ℕ_discrete (n % 2) 1)
      (λ odd. let w = refused v (locked_at r n) in (
        w,
        keeps,
        tt,
        loads s id (place r) v w h at (gives_up v (locked_at r n) drawn held) (gives_up_fits s.words (Stands s.views) (Installs s.views) v (locked_at r n) drawn held f),
        λ q e. (refl, (λ _. ap (λ z. refused v (locked_at z n)) (let p : 1 + 6 * r ≡ 1 + 6 * q = e in omega arith)), (λ even. absurd (omega arith))),
      ))
      (λ even. let w = begun v r (n / 2) in (
        w,
        keeps,
        tt,
        loads s id (place r) v w h at (begins v r (n / 2) drawn held)
            (still_fits s.words (Stands s.views) (Installs s.views) v w (begins v r (n / 2) drawn held) f
            (λ x e. subst (Open b s.words (Installs s.views)) (Some-injective _ _ e) record { inside = inside; seen = le_refl _; short = omega arith; same = λ _ _ k l. absurd (omega arith) })
            f.counted f.alone (f.undrawn drawn) (λ y i. undecided v drawn (f.unclosed y i))),
        λ q e. (refl, (λ odd. absurd (even odd)), (λ _. ap (λ z. begun v z (n / 2)) (let p : 1 + 6 * r ≡ 1 + 6 * q = e in omega arith))),
      ))
    where
      begins : (v : View) (r t : ℕ) → v.attempt.drawn ≡ None → v.attempt.held ≡ [] → Still v (begun v r t)
      begins v r t d h = record { items = refl; drawn = d; drawn' = d; held = h; held' = h; draws = refl; tries = refl }

  pub looks_cell : (slots id : ℕ) (me : Mine) (x : Reading) (i : ℕ) → me.0.attempt.reading ≡ Some x → i ≡ cell_place x.rec (length x.cells) → length x.cells < (1 + b.columns x.rec) → me.0.attempt.drawn ≡ None → me.0.attempt.held ≡ []
      → Allows (Kept b) slots id me i (λ n. n) (ColumnLoad (step slots i 0 0 none) me)
  looks_cell slots id me x i reading here more drawn held s h _ at _ =
      let v = me.0 in
      let n = get_or s.words i 0 in
      let f = h.facts.each id v at in
      let o = f.opened x reading in
      let w = loaded v x n in
      let still : Still v w = record { items = refl; drawn = drawn; drawn' = drawn; held = held; held' = held; draws = refl; tries = refl } in (
        w,
        keeps,
        tt,
        loads s id i v w h at still (still_fits s.words (Stands s.views) (Installs s.views) v w still f
            (λ y e. subst (Open b s.words (Installs s.views)) (Some-injective _ _ e) record {
              inside = o.inside;
              seen = o.seen;
              short = (let l = length-append x.cells (n ∷ []) in omega arith);
              same = λ t m k l. more_same x.cells n k (λ j. get_or s.words (cell_place x.rec j) 0) (o.same t m) (ap (λ j. get_or s.words j 0) here) l;
            })
            f.counted f.alone (f.undrawn drawn) (λ y i. undecided v drawn (f.unclosed y i))),
        λ y e. (refl, ap (λ z. loaded v z n) (Some-injective _ _ (sym reading ∙ e))),
      )

  pub looks_again : (slots id : ℕ) (me : Mine) (x : Reading) → me.0.attempt.reading ≡ Some x → length x.cells ≡ (1 + b.columns x.rec) → ((y : Read) → In y me.0.attempt.reads → y.rec ≢ x.rec) → me.0.attempt.drawn ≡ None → me.0.attempt.held ≡ []
      → Allows (Kept b) slots id me (place x.rec) (λ n. n) (Confirm (step slots (place x.rec) 0 0 none) me)
  looks_again slots id me x reading full unseen drawn held s h _ at _ =
      let v = me.0 in
      let n = get_or s.words (place x.rec) 0 in
      let f = h.facts.each id v at in
      let o = f.opened x reading in
      let c = h.facts.recs x.rec o.inside in
      dite (ℕ_discrete n (2 * x.seen))
      (λ same.
      let w = with_read v x.rec x.seen (row_of x.cells) in
      let still : Still v w = record { items = refl; drawn = drawn; drawn' = drawn; held = held; held' = held; draws = refl; tries = refl } in
      let free : Installs s.views x.rec → ⊥ = (λ (i : Installs s.views x.rec). let odd = c.locks (i.0, i.1, i.2, i.3) in absurd (omega arith)) in
      let stamp : x.seen ≡ n / 2 = omega arith in
      let shown = c.shown free in
      let cells : cells_of (b.columns x.rec) c.row ≡ x.cells = same_cells (cells_of (b.columns x.rec) c.row) x.cells ((1 + b.columns x.rec)) shown.0 full (λ k l. sym (shown.1 k l) ∙ sym (o.same stamp free k (subst (λ m. k < m) (sym full) l))) in
      let row : c.row ≡ row_of x.cells = sym (row_back (b.columns x.rec) c.row) ∙ ap row_of cells in (
        w,
        keeps,
        tt,
        loads s id (place x.rec) v w h at still (still_fits s.words (Stands s.views) (Installs s.views) v w still f
            (λ y e. absurd (Some≢None y (sym e)))
            (λ y i. ⊎_elim (λ old. f.counted y (i.0, old))
            (λ (new : (i.0 ≡ length v.attempt.reads) × (record { rec = x.rec; stamp = x.seen; row = row_of x.cells } ≡ y)).
            subst (λ (z : Read). Version b (Stands s.views) z.rec z.stamp z.row × (z.stamp ≤ get_or s.words (place z.rec) 0 / 2) × (z.rec < b.records)) new.1
            (subst (λ (p : ℕ × RowOf). Version b (Stands s.views) x.rec p.0 p.1) (λ j. (sym stamp j, row j)) c.version, o.seen, o.inside))
            (at_end v.attempt.reads _ y i.0 i.1))
            (one_more v.attempt.reads (record { rec = x.rec; stamp = x.seen; row = row_of x.cells }) f.alone unseen)
            (f.undrawn drawn) (λ y i. undecided v drawn (f.unclosed y i))),
        λ y e. let z = Some-injective _ _ (sym reading ∙ e) in (refl, (λ _. ap (λ (u : Reading). with_read v u.rec u.seen (row_of u.cells)) z), (λ ne. absurd (ne (same ∙ ap (λ (u : Reading). 2 * u.seen) z))), (λ ne. absurd (ne (same ∙ ap (λ (u : Reading). 2 * u.seen) z)))),
      ))
      (λ other. dite (ℕ_discrete (n % 2) 1)
      (λ odd. let w = refused v (locked_at x.rec n) in (
        w,
        keeps,
        tt,
        loads s id (place x.rec) v w h at (gives_up v (locked_at x.rec n) drawn held) (gives_up_fits s.words (Stands s.views) (Installs s.views) v (locked_at x.rec n) drawn held f),
        λ y e. let z = Some-injective _ _ (sym reading ∙ e) in (refl, (λ same. absurd (other (same ∙ sym (ap (λ (u : Reading). 2 * u.seen) z)))), (λ _ _. ap (λ (u : Reading). refused v (locked_at u.rec n)) z), (λ _ even. absurd (omega arith))),
      ))
      (λ even. let w = refused v (changed_at x.rec (2 * x.seen) n) in (
        w,
        keeps,
        tt,
        loads s id (place x.rec) v w h at (gives_up v (changed_at x.rec (2 * x.seen) n) drawn held) (gives_up_fits s.words (Stands s.views) (Installs s.views) v (changed_at x.rec (2 * x.seen) n) drawn held f),
        λ y e. let z = Some-injective _ _ (sym reading ∙ e) in (refl, (λ same. absurd (other (same ∙ sym (ap (λ (u : Reading). 2 * u.seen) z)))), (λ _ odd. absurd (even odd)), (λ _ _. ap (λ (u : Reading). refused v (changed_at u.rec (2 * u.seen) n)) z)),
      )))
