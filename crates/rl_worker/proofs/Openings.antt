-- The opening records, one after another.
use Rattle.std.proofs.Common.{◌≡◌, ℕ, zero, suc, ◌+◌, ◌<◌, List, [], ◌∷◌, ◌++◌, length, map, slice_get, slice_index, Option, Some, None, refl, ap, sym, ◌∙◌, subst, arith, All, inl, inr, ◌≤◌, ◌^◌}
use Rattle.std.specs.List.{range_with_len}
use Rattle.std.specs.FinMap as finite
use Rattle.rl_value.specs.Rows.{Rows}
use Rattle.rl_value.specs.Tables.{Table, columns_of}
use Rattle.rl_tables.specs.Numbers.{sizes_of, place_of}
use Rattle.rl_txn.proofs.Folds.{range_push}
use Rattle.rl_worker.specs.declared.words.Record.{Record}
use Rattle.rl_value.specs.Cells.{cells_of}
use Rattle.rl_worker.specs.Opening.{opening_rec}
use Rattle.rl_worker.specs.Acts.{no_rec}
use Rattle.rl_worker.specs.Workers.{RecordFits}
use Rattle.rl_txn.specs.Fits.{RowHas}
use Rattle.rl_worker.specs.Told.{found}
use Rattle.rl_worker.proofs.Commits.{cells_length}
use Rattle.rl_txn.proofs.Answers.{all_get}
use Rattle.rl_value.specs.Fits.{RowsFit}
use Rattle.std.proofs.lemmas.Bool.{cases_lt}
use Rattle.std.proofs.lemmas.List.{get_or_append_left}

map_push : {A B : Type 0} (f : A → B) (xs : List A) (x : A) → map f (xs ++ x ∷ []) ≡ map f xs ++ f x ∷ []
map_push f [] x = refl
map_push f (y ∷ xs) x = ap (λ z. f y ∷ z) (map_push f xs x)

index_of_get : (xs : List ℕ) (i x : ℕ) → slice_get xs i ≡ Some x → slice_index xs i ≡ x
index_of_get [] i x e = absurd (cc)
index_of_get (y ∷ xs) zero x e = cc
index_of_get (y ∷ xs) (suc i) x e = index_of_get xs i x e

-- a record with the stamp, and the cells of the row, of its number
pub opened : (tables : List Table) (rows : Rows) (stamps : List ℕ) (r : ℕ) (x : Record) (place : ℕ × ℕ) (columns : ℕ) (row : Option (List ℕ)) → slice_get stamps r ≡ Some x.stamp → x.holder ≡ None
    → place ≡ place_of (sizes_of tables) r → columns ≡ columns_of tables place.0 → row ≡ finite.get rows (place.0, place.1) → x.cells ≡ cells_of columns row → x ≡ opening_rec tables rows stamps r
opened tables rows stamps r x place columns row s h p c o e =
    let stamp : x.stamp ≡ slice_index stamps r = sym (index_of_get stamps r x.stamp s) in
    let cells : x.cells ≡ cells_of (columns_of tables (place_of (sizes_of tables) r).0) (finite.get rows (place_of (sizes_of tables) r)) =
    e ∙ ap (λ n. cells_of n row) c ∙ ap (cells_of (columns_of tables place.0)) o ∙ ap (λ (q : ℕ × ℕ). cells_of (columns_of tables q.0) (finite.get rows q)) p in
    λ i. record { stamp = stamp i; holder = h i; cells = cells i }

pub opened_more : (tables : List Table) (rows : Rows) (stamps : List ℕ) (r : ℕ) (xs : List Record) (x : Record) → xs ≡ map (opening_rec tables rows stamps) (range_with_len 0 r) → x ≡ opening_rec tables rows stamps r
    → (xs ++ x ∷ []) ≡ map (opening_rec tables rows stamps) (range_with_len 0 (r + 1))
opened_more tables rows stamps r xs x e is =
    let n : r + 1 ≡ suc r = omega arith in
    let z : 0 + r ≡ r = omega arith in
    ap (λ ys. ys ++ x ∷ []) e ∙ ap (λ y. map (opening_rec tables rows stamps) (range_with_len 0 r) ++ y ∷ []) (is ∙ ap (opening_rec tables rows stamps) (sym z))
    ∙ sym (map_push (opening_rec tables rows stamps) (range_with_len 0 r) (0 + r)) ∙ ap (map (opening_rec tables rows stamps)) (sym (range_push 0 r)) ∙ ap (λ m. map (opening_rec tables rows stamps) (range_with_len 0 m)) (sym n)

row_has : (tables : List Table) (rows : Rows) → RowsFit tables rows → (t k : ℕ) → RowHas (columns_of tables t) (finite.get rows (t, k))
row_has tables rows fits t k = go (finite.get rows (t, k)) refl
  where
    go : (o : Option (List ℕ)) → finite.get rows (t, k) ≡ o → RowHas (columns_of tables t) o
    go None e = tt
    go (Some row) e = (fits t k row e).2

-- such a record fits
pub opened_fits : (tables : List Table) (rows : Rows) (stamps : List ℕ) (r : ℕ) (x : Record) (place : ℕ × ℕ) (columns : ℕ) (row : Option (List ℕ)) → RowsFit tables rows → All (λ s. s < 2 ^ 60) stamps → slice_get stamps r ≡ Some x.stamp
    → place ≡ place_of (sizes_of tables) r → columns ≡ columns_of tables place.0 → 1 ≤ columns → row ≡ finite.get rows (place.0, place.1) → x.cells ≡ cells_of columns row → RecordFits tables r x
opened_fits tables rows stamps r x place columns row fits early s p c some o e =
    let has : RowHas columns row = subst (λ n. RowHas n row) (sym c) (subst (RowHas (columns_of tables place.0)) (sym o) (row_has tables rows fits place.0 place.1)) in
    let wide : length x.cells ≡ columns + 1 = ap length e ∙ cells_length columns row has in
    record {
      cells = wide ∙ ap (λ n. n + 1) (c ∙ ap (λ (q : ℕ × ℕ). columns_of tables q.0) p);
      some = omega (arith, wide, some);
      stamp = all_get (λ s. s < 2 ^ 60) stamps r x.stamp s early;
    }

-- one more record fits
pub fits_more : (tables : List Table) (r : ℕ) (xs : List Record) (x : Record) → length xs ≡ r → ((i : ℕ) → i < r → RecordFits tables i (found xs i)) → RecordFits tables r x → (i : ℕ) → i < r + 1 → RecordFits tables i (found (xs ++ x ∷ []) i)
fits_more tables r xs x n old new i l = elim (cases_lt i r) [
  | inl a ↦ subst (RecordFits tables i) (sym (get_or_append_left xs (x ∷ []) no_rec i (omega (arith, n, a)))) (old i a)
  | inr b ↦ (
      let here : i ≡ length xs = omega (arith, n, b, l) in
      let last : found (xs ++ x ∷ []) i ≡ x = ap (found (xs ++ x ∷ [])) here ∙ get_or_append_seam xs x in
      subst (RecordFits tables i) (sym last) (subst (λ k. RecordFits tables k x) (sym (here ∙ n)) new))
]
  where
    get_or_append_seam : (ys : List Record) (y : Record) → found (ys ++ y ∷ []) (length ys) ≡ y
    get_or_append_seam [] y = refl
    get_or_append_seam (z ∷ ys) y = get_or_append_seam ys y
