-- The words of a replay as it is made.
use Rattle.std.proofs.Common.{◌≡◌, ◌≢◌, ℕ, zero, suc, ◌+◌, ◌*◌, ◌<◌, ◌≤◌, List, [], ◌∷◌, ◌++◌, length, get_or, sum, refl, sym, ap, ◌∙◌, subst, arith, length-append}
use Rattle.std.specs.Prelude.{Some, None}
use Rattle.std.specs.FinMap as finite
use Rattle.std.proofs.lemmas.List.{get_or_append_left, get_or-append-add, length-replicate}
use mathlib.Core.Logic.{dite}
use native.Mathlib.Decide.{ℕ_discrete}
use Rattle.rl_value.specs.Cells.{cells_of}
use Rattle.rl_value.specs.Fits.{RowsFit}
use Rattle.rl_value.specs.Rows.{Rows}
use Rattle.rl_value.specs.Tables.{Table, columns_of, size_of}
use Rattle.rl_tables.specs.Numbers.{sizes_of, place_of}
use Rattle.rl_txn.specs.declared.item.Item.{Item}
use Rattle.rl_shared_replay.specs.Layout.{RowOf, place, cell_place, Shows}
use Rattle.rl_shared_replay.specs.Opening.{six_words, row_of_record, Wide, Filled, IsStart, CanOpen}
use Rattle.rl_shared_replay.specs.Start.{Made}
use Rattle.rl_shared_replay.proofs.Settling.{cells_any}

last_of : {X : Type 0} (xs : List X) (x d : X) (k : ℕ) → length xs ≡ k → get_or (xs ++ x ∷ []) k d ≡ x
last_of [] x d zero e = refl
last_of [] x d (suc k) e = absurd (omega arith)
last_of (y ∷ ys) x d zero e = absurd (omega arith)
last_of (y ∷ ys) x d (suc k) e = last_of ys x d k (omega arith)

pub wide_none : (tables : List Table) (sizes : List ℕ) → Wide tables sizes 0 []
wide_none tables sizes = record { long = refl; each = λ r l. absurd (omega arith); some = λ r l. absurd (omega arith); few = λ r l. absurd (omega arith) }

pub wide_more : (tables : List Table) (sizes : List ℕ) (k : ℕ) (columns : List ℕ) (t width : ℕ) → Wide tables sizes k columns → t ≡ (place_of sizes k).0 → width ≡ columns_of tables t → 0 < width → width ≤ 4
    → Wide tables sizes (k + 1) (columns ++ width ∷ [])
wide_more tables sizes k columns t width w at is more few = record {
  long = (let a = length-append columns (width ∷ []) in let b = w.long in omega arith);
  each = λ r l. dite (ℕ_discrete r k) (λ e. subst (λ q. get_or (columns ++ width ∷ []) q 0 ≡ columns_of tables (place_of sizes q).0) (sym e) (here ∙ is ∙ ap (columns_of tables) at)) (λ ne. old r l ne ∙ w.each r (omega arith));
  some = λ r l. dite (ℕ_discrete r k) (λ e. subst (λ q. 0 < get_or (columns ++ width ∷ []) q 0) (sym e) (let h = here in omega arith)) (λ ne. let o = old r l ne in let s = w.some r (omega arith) in omega arith);
  few = λ r l. dite (ℕ_discrete r k) (λ e. subst (λ q. get_or (columns ++ width ∷ []) q 0 ≤ 4) (sym e) (let h = here in omega arith)) (λ ne. let o = old r l ne in let s = w.few r (omega arith) in omega arith);
}
  where
    here : get_or (columns ++ width ∷ []) k 0 ≡ width
    here = last_of columns width 0 k w.long

    old : (r : ℕ) → r < k + 1 → r ≢ k → get_or (columns ++ width ∷ []) r 0 ≡ get_or columns r 0
    old r l ne = get_or_append_left columns (width ∷ []) 0 r (let b = w.long in omega arith)

pub filled_none : (sizes : List ℕ) (rows : Rows) → Filled sizes rows 0 (0 ∷ [])
filled_none sizes rows = record { long = refl; word = λ r l. absurd (omega arith); cell = λ r k l. absurd (omega arith) }

six_at : (row : RowOf) (j : ℕ) → j < 5 → get_or (six_words row) (suc j) 0 ≡ get_or (cells_of 4 row) j 0
six_at row zero l = refl
six_at row (suc zero) l = refl
six_at row (suc (suc zero)) l = refl
six_at row (suc (suc (suc zero))) l = refl
six_at row (suc (suc (suc (suc zero)))) l = refl
six_at row (suc (suc (suc (suc (suc j))))) l = absurd (omega arith)

six_long : (row : RowOf) → length (six_words row) ≡ 6
six_long row = refl

pub filled_more : (sizes : List ℕ) (rows : Rows) (k : ℕ) (words : List ℕ) (row : RowOf) → Filled sizes rows k words → row ≡ row_of_record sizes rows k → Filled sizes rows (k + 1) (words ++ six_words row)
filled_more sizes rows k words row f is = record {
  long = (let w = f.long in let a = length-append words (six_words row) in let b = six_long row in omega arith);
  word = λ r l. dite (ℕ_discrete r k)
      (λ e. subst (λ q. get_or (words ++ six_words row) (place q) 0 ≡ 0) (sym e) (new_at (place k) 0 (omega arith)))
      (λ ne. let m : r < k = omega arith in old_at (place r) (omega arith) ∙ f.word r m);
  cell = λ r j l m. dite (ℕ_discrete r k)
      (λ e. subst (λ q. get_or (words ++ six_words row) (cell_place q j) 0 ≡ get_or (cells_of 4 (row_of_record sizes rows q)) j 0) (sym e)
      (new_at (cell_place k j) (suc j) (omega arith) ∙ (six_at row j m ∙ ap (λ (x : RowOf). get_or (cells_of 4 x) j 0) is)))
      (λ ne. let n : r < k = omega arith in old_at (cell_place r j) (omega arith) ∙ f.cell r j n m);
}
  where
    old_at : (i : ℕ) → i < 1 + 6 * k → get_or (words ++ six_words row) i 0 ≡ get_or words i 0
    old_at i l = get_or_append_left words (six_words row) 0 i (let w = f.long in omega arith)

    new_at : (i j : ℕ) → i ≡ 1 + 6 * k + j → get_or (words ++ six_words row) i 0 ≡ get_or (six_words row) j 0
    new_at i j e = ap (λ n. get_or (words ++ six_words row) n 0) (let w = f.long in let z : i ≡ length words + j = omega arith in z) ∙ get_or-append-add words (six_words row) j 0

-- what holds of each number of a list holds of 0 past the end
past_end : (xs : List ℕ) → ((r : ℕ) → r < length xs → get_or xs r 0 ≤ 4) → (r : ℕ) → get_or xs r 0 ≤ 4
past_end [] h r = omega arith
past_end (x ∷ xs) h zero = h 0 (omega arith)
past_end (x ∷ xs) h (suc r) = past_end xs (λ q l. h (suc q) (omega arith)) r

module _ (tables : List Table) (rows : Rows) (made : Made) (fit : RowsFit tables rows) (wide : Wide tables made.sizes (sum made.sizes) made.columns) (filled : Filled made.sizes rows (sum made.sizes) made.words) where
  row_wide : (r : ℕ) → r < sum made.sizes → (row : RowOf) → row_of_record made.sizes rows r ≡ row → length (cells_of (get_or made.columns r 0) row) ≡ 1 + get_or made.columns r 0
  row_wide r l None e = let a = length-replicate (get_or made.columns r 0) 0 in (let z : suc (get_or made.columns r 0) ≡ 1 + get_or made.columns r 0 = omega arith in ap suc a ∙ z)
  row_wide r l (Some row) e = let f = fit (place_of made.sizes r).0 (place_of made.sizes r).1 row e in let c = wide.each r l in (let n = f.2 in let z : suc (length row) ≡ 1 + get_or made.columns r 0 = omega arith in z)

  -- the words show the opening rows
  pub opening_shows : (r : ℕ) → r < sum made.sizes → Shows (get_or made.columns r 0) made.words r (row_of_record made.sizes rows r)
  opening_shows r l = (
    row_wide r l (row_of_record made.sizes rows r) refl,
    (λ k m. let few = wide.few r l in filled.cell r k l (omega arith) ∙ cells_any 4 (get_or made.columns r 0) (row_of_record made.sizes rows r) k),
  )

  pub can_open : sum made.sizes ≤ 65536 → CanOpen made
  can_open few = let long = wide.long in record {
    counted = long;
    records = omega arith;
    wide = (let w = filled.long in omega arith);
    free = λ r l. filled.word r (omega arith);
    row = λ r l. (row_of_record made.sizes rows r, opening_shows r (omega arith));
    some = λ r l. wide.some r (omega arith);
    few = past_end made.columns (λ r l. wide.few r (omega arith));
  }
