-- Column stores and the closing store of a new word, as the table asks for them.
use Rattle.std.proofs.Common.{◌≡◌, ℕ, zero, suc, ◌+◌, ◌*◌, ◌<◌, List, [], ◌∷◌, ◌++◌, length, set, refl, sym, ap, ◌∙◌, subst, arith}
use Rattle.std.specs.Prelude.{Some}
use mathlib.Core.Logic.{dite}
use mathlib.Core.Option.{some, none, some-ne-none, some-injective}
use native.Mathlib.Decide.{ℕ_discrete}
use lib.ListN.{get_elem?}
use Rattle.atomic_table.specs.Table.{step, keeps, Allows}
use Rattle.rl_value.specs.Cells.{cells_of, row_of}
use Rattle.rl_store.specs.declared.view.Held.{Held}
use Rattle.rl_store.specs.declared.view.View.{View}
use Rattle.rl_store.specs.Entries.{In, RowOf, of_attempt, Decided, IsDecided}
use Rattle.rl_store.specs.Layout.{Opening, place, cell_place}
use Rattle.rl_store.specs.Steps.{Mine, ColumnStore, CloseNew}
use Rattle.rl_store.specs.Views.{noted, without, with_cell, closed_with}
use Rattle.rl_store.specs.Storing.{all_noted, with_cells}
use Rattle.rl_store.specs.Passes.{HasStored}
use Rattle.rl_store.proofs.Grouped.{Kept}
use Rattle.rl_store.proofs.Loads.{Some-injective, row_back}
use Rattle.rl_store.proofs.Without.{skip, stay}
use Rattle.rl_store.proofs.Storing.{stores, note, hit, miss, noted_cons}
use Rattle.rl_store.proofs.Ended.{closes}

pub puts : (b : Opening) (slots id : ℕ) (me : Mine) (r k n : ℕ) (xs : List ℕ) → k < 1 + b.columns r → length xs ≡ k → HasStored me.0 r xs → IsDecided me.0.attempt
    → Allows (Kept b) slots id me (cell_place r k) (λ _. n) (λ _. ColumnStore (step slots (cell_place r k) n 0 none) me n)
puts b slots id me r k n xs more long hold sure s h _ at _ =
    let y = hold.0 in
    let len : length y.stored ≡ k = ap length hold.3 ∙ long in
    let more' : length y.stored < 1 + b.columns y.rec = subst (λ (p : ℕ × ℕ). p.0 < 1 + b.columns p.1) (λ i. (sym len i, sym hold.2 i)) more in
    let kept = stores b s h id me.0 at sure.0 sure.1 sure.2 y hold.1 more' n in (
      with_cell me.0 r n,
      keeps,
      tt,
      subst (λ (p : ℕ × ℕ). Kept b record { words = set s.words (cell_place p.1 p.0) n; homes = s.homes; views = set s.views id (with_cell me.0 p.1 n) }) (λ i. (len i, hold.2 i)) kept,
      λ q j l e. ap (λ z. (with_cell me.0 z n, me.1)) (let m = h.facts.narrow r in let p : 2 + (6 * r + k) ≡ 2 + (6 * q + j) = e in omega arith),
    )

pub shuts : (b : Opening) (slots id : ℕ) (me : Mine) (r t : ℕ) (row : RowOf) → length (cells_of (b.columns r) row) ≡ 1 + b.columns r → HasStored me.0 r (cells_of (b.columns r) row) → me.0.attempt.drawn ≡ Some t → IsDecided me.0.attempt
    → Allows (Kept b) slots id me (place r) (λ _. 2 * t) (λ _. CloseNew (step slots (place r) (2 * t) 0 none) me (2 * t))
shuts b slots id me r t row full hold drawn sure s h _ at _ =
    let v = me.0 in
    let y = hold.0 in
    let sure' : Decided (of_attempt v.attempt t) = subst (λ n. Decided (of_attempt v.attempt n)) (Some-injective _ _ (sym sure.1 ∙ drawn)) sure.2 in
    let is_row : cells_of (b.columns y.rec) row ≡ y.stored = ap (λ q. cells_of (b.columns q) row) hold.2 ∙ sym hold.3 in
    let full' : length y.stored ≡ 1 + b.columns y.rec = ap length hold.3 ∙ (full ∙ ap (λ q. 1 + b.columns q) (sym hold.2)) in
    let once = (h.facts.each id v at).once in
    let kept = closes b s h id v at t drawn sure' y hold.1 full' row is_row in (
      closed_with (without y.rec v.attempt.held) v t y.rec row,
      keeps,
      tt,
      subst (λ z. Kept b record { words = set s.words (place z) (2 * t); homes = s.homes; views = set s.views id (closed_with (without y.rec v.attempt.held) v t y.rec row) }) hold.2 kept,
      λ g t' i e n.
          let qr : r ≡ g.rec = (let p : 1 + 6 * r ≡ 1 + 6 * g.rec = e in omega arith) in
          let tt' : t ≡ t' = (let m : 2 * t ≡ 2 * t' = n in omega arith) in
          let place_same = once y g hold.1.0 i.0 hold.1.1 i.1 (hold.2 ∙ qr) in
          let y_is : y ≡ g = some-injective _ _ (sym hold.1.1 ∙ (ap (get_elem? v.attempt.held) place_same ∙ i.1)) in
          let row_is : row ≡ row_of g.stored = sym (row_back (b.columns y.rec) row) ∙ (ap row_of is_row ∙ ap (λ (u : Held). row_of u.stored) y_is) in
          (λ j. (closed_with (without (y_is j).rec v.attempt.held) v (tt' j) (y_is j).rec (row_is j), me.1)),
    )

pub close_tries : (hs : List Held) (v : View) (t r : ℕ) (row : RowOf) → (closed_with hs v t r row).tries ≡ v.tries
close_tries [] v t r row = refl
close_tries (h ∷ hs) v t r row = refl

noted_without : (r n : ℕ) (hs : List Held) → without r (noted r n hs) ≡ without r hs
noted_without r n [] = refl
noted_without r n (h ∷ hs) = ap (without r) (noted_cons r n h hs) ∙ dite (ℕ_discrete h.rec r)
    (λ e. ap (λ x. without r (x ∷ noted r n hs)) (hit r n h e) ∙ (skip r (record h { stored = h.stored ++ n ∷ [] }) (noted r n hs) e ∙ (noted_without r n hs ∙ sym (skip r h hs e))))
    (λ ne. ap (λ x. without r (x ∷ noted r n hs)) (miss r n h ne) ∙ (stay r h (noted r n hs) ne ∙ (ap (λ l. h ∷ l) (noted_without r n hs) ∙ sym (stay r h hs ne))))

all_without : (r : ℕ) (cells : List ℕ) (hs : List Held) → without r (all_noted r cells hs) ≡ without r hs
all_without r [] hs = refl
all_without r (n ∷ cells) hs = all_without r cells (noted r n hs) ∙ noted_without r n hs

-- one cell more
pub all_more : (r n : ℕ) (cells : List ℕ) (hs : List Held) → noted r n (all_noted r cells hs) ≡ all_noted r (cells ++ n ∷ []) hs
all_more r n [] hs = refl
all_more r n (m ∷ cells) hs = all_more r n cells (noted r m hs)

noted_in : (r n : ℕ) (hs : List Held) (y : Held) → In y hs → y.rec ≡ r → In (record y { stored = y.stored ++ n ∷ [] }) (noted r n hs)
noted_in r n [] y i e = absurd (some-ne-none y (sym i.1))
noted_in r n (h ∷ hs) y i e = subst (In (record y { stored = y.stored ++ n ∷ [] })) (sym (noted_cons r n h hs)) (go i.0 i.1 (λ k p. noted_in r n hs y (k, p) e))
  where
    go : (k : ℕ) → get_elem? (h ∷ hs) k ≡ some y → ((k : ℕ) → get_elem? hs k ≡ some y → In (record y { stored = y.stored ++ n ∷ [] }) (noted r n hs)) → In (record y { stored = y.stored ++ n ∷ [] }) (note r n h ∷ noted r n hs)
    go zero p again = let z : h ≡ y = some-injective h y p in (0, ap some (hit r n h (ap (λ (u : Held). u.rec) z ∙ e) ∙ ap (λ (u : Held). record u { stored = u.stored ++ n ∷ [] }) z))
    go (suc k) p again = let x = again k p in (suc x.0, x.1)

-- the cells are stored behind those that were
pub all_in : (r : ℕ) (cells xs : List ℕ) (v : View) → HasStored v r xs → HasStored (with_cells v r cells) r (xs ++ cells)
all_in r cells xs v h = go cells xs v.attempt.held h.0 h.1 h.2 h.3
  where
    go : (cells xs : List ℕ) (hs : List Held) (y : Held) → In y hs → y.rec ≡ r → y.stored ≡ xs → (z : Held) × In z (all_noted r cells hs) × (z.rec ≡ r) × (z.stored ≡ xs ++ cells)
    go [] xs hs y i e s = (y, i, e, s ∙ none xs)
      where
        none : (xs : List ℕ) → xs ≡ xs ++ []
        none [] = refl
        none (x ∷ xs) = ap (λ l. x ∷ l) (none xs)
    go (n ∷ cells) xs hs y i e s =
        let z = go cells (xs ++ n ∷ []) (noted r n hs) (record y { stored = y.stored ++ n ∷ [] }) (noted_in r n hs y i e) e (ap (λ l. l ++ n ∷ []) s) in
        (z.0, z.1, z.2, z.3 ∙ behind xs n cells)
      where
        behind : (xs : List ℕ) (n : ℕ) (cells : List ℕ) → (xs ++ n ∷ []) ++ cells ≡ xs ++ n ∷ cells
        behind [] n cells = refl
        behind (x ∷ xs) n cells = ap (λ l. x ∷ l) (behind xs n cells)

-- closing after the stores is closing
pub closes_stored : (v : View) (t r : ℕ) (cells : List ℕ) (row : RowOf) → closed_with (without r (with_cells v r cells).attempt.held) (with_cells v r cells) t r row ≡ closed_with (without r v.attempt.held) v t r row
closes_stored v t r cells row = go (without r (all_noted r cells v.attempt.held)) (without r v.attempt.held) refl (all_without r cells v.attempt.held)
  where
    go : (l m : List Held) → without r (all_noted r cells v.attempt.held) ≡ l → l ≡ m → closed_with l (with_cells v r cells) t r row ≡ closed_with m v t r row
    go [] m e z = subst (λ k. closed_with [] (with_cells v r cells) t r row ≡ closed_with k v t r row) z refl
    go (h ∷ hs) m e z = subst (λ k. closed_with (h ∷ hs) (with_cells v r cells) t r row ≡ closed_with k v t r row) z (λ i. record v { attempt = record v.attempt { held = all_without r cells v.attempt.held i; closed = v.attempt.closed ++ record { rec = r; row = row } ∷ [] } })
