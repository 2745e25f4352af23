-- The words of a store as it is made.
use Rattle.std.proofs.Common.{◌≡◌, ℕ, zero, suc, ◌+◌, ◌*◌, ◌^◌, ◌<◌, ◌≤◌, List, [], ◌∷◌, ◌++◌, length, get_or, refl, sym, ap, ◌∙◌, subst, arith, length-append}
use Rattle.std.specs.Prelude.{Some, None, slice_index_or}
use Rattle.std.proofs.lemmas.List.{get_or_append_left, get_or-append-add, length-replicate}
use mathlib.Core.Logic.{dite}
use native.Mathlib.Decide.{ℕ_discrete}
use Rattle.rl_value.specs.Cells.{cells_of}
use Rattle.rl_store.specs.Entries.{RowOf}
use Rattle.rl_store.specs.Layout.{place, cell_place, FitsColumns, Shows}
use Rattle.rl_store.specs.Opening.{Made, CanOpen, Filled, OpensWith, opening_of, six_words}

-- within a list it doesn't matter what stands for the places past the end
pub within : {X : Type 0} (xs : List X) (k : ℕ) (d x : X) → k < length xs → x ≡ get_or xs k x → get_or xs k d ≡ x
within [] k d x l e = absurd (omega arith)
within (y ∷ ys) zero d x l e = sym e
within (y ∷ ys) (suc k) d x l e = within ys k d x (omega arith) e

six_at : (word : ℕ) (cells : List ℕ) (j : ℕ) → j < 5 → get_or (six_words word cells) (suc j) 0 ≡ get_or cells j 0
six_at word cells zero l = refl
six_at word cells (suc zero) l = refl
six_at word cells (suc (suc zero)) l = refl
six_at word cells (suc (suc (suc zero))) l = refl
six_at word cells (suc (suc (suc (suc zero)))) l = refl
six_at word cells (suc (suc (suc (suc (suc j))))) l = absurd (omega arith)

module _ (k : ℕ) (columns stamps : List ℕ) (rows : List RowOf) (words : List ℕ) (f : Filled k columns stamps rows words) (cells : List ℕ) (are : cells ≡ cells_of (get_or columns k 0) (slice_index_or rows k None)) (few : (r : ℕ) → get_or columns r 0 ≤ 4) where
  abbrev pub six : List ℕ
  six = six_words (2 * get_or stamps k 0) cells

  old_at : (i : ℕ) → i < 1 + 6 * k → get_or (words ++ six) i 0 ≡ get_or words i 0
  old_at i l = get_or_append_left words six 0 i (let w = f.wide in omega arith)

  new_at : (i j : ℕ) → i ≡ 1 + 6 * k + j → get_or (words ++ six) i 0 ≡ get_or six j 0
  new_at i j e = ap (λ n. get_or (words ++ six) n 0) (let w = f.wide in let z : i ≡ length words + j = omega arith in z) ∙ get_or-append-add words six j 0

  pub filled_more : Filled (k + 1) columns stamps rows (words ++ six)
  filled_more = record {
    wide = (let w = f.wide in let a = length-append words six in omega arith);
    counter = old_at 0 (omega arith) ∙ f.counter;
    word = λ r l. dite (ℕ_discrete r k)
        (λ e. subst (λ q. get_or (words ++ six) (place q) 0 ≡ 2 * get_or stamps q 0) (sym e) (new_at (place k) 0 (omega arith)))
        (λ ne. let m : r < k = omega arith in old_at (place r) (omega arith) ∙ f.word r m);
    cell = λ r j l m. dite (ℕ_discrete r k)
        (λ e. subst (λ q. get_or (words ++ six) (cell_place q j) 0 ≡ get_or (cells_of (get_or columns q 0) (slice_index_or rows q None)) j 0) (sym e)
        (let n : j < 5 = (let a = subst (λ q. j < 1 + get_or columns q 0) e m in let b = few k in omega arith) in
        new_at (cell_place k j) (suc j) (omega arith) ∙ (six_at (2 * get_or stamps k 0) cells j n ∙ ap (λ c. get_or c j 0) are)))
        (λ ne. let n : r < k = omega arith in let b = few r in old_at (cell_place r j) (omega arith) ∙ f.cell r j n m);
  }

pub cells_length : (columns : ℕ) (row : RowOf) → FitsColumns columns row → length (cells_of columns row) ≡ 1 + columns
cells_length columns None fits = ap suc (length-replicate columns 0) ∙ (let z : suc columns ≡ 1 + columns = omega arith in z)
cells_length columns (Some row) fits = ap suc fits ∙ (let z : suc columns ≡ 1 + columns = omega arith in z)

module _ (made : Made) (stamps : List ℕ) (rows : List RowOf) (f : Filled (length made.columns) made.columns stamps rows made.words)
    (fit : (r : ℕ) → r < length made.columns → FitsColumns (get_or made.columns r 0) (slice_index_or rows r None)) where
  shows : (r : ℕ) → r < length made.columns → Shows (opening_of made) made.words r (slice_index_or rows r None)
  shows r l = (cells_length (get_or made.columns r 0) (slice_index_or rows r None) (fit r l), λ k m. f.cell r k l m)

  pub opens_with : (r : ℕ) → r < length made.columns → OpensWith made r (get_or stamps r 0) (slice_index_or rows r None)
  opens_with r l = record { stamped = (let e = f.word r l in omega arith); shown = shows r l }

  pub can_open : ((r : ℕ) → r < length made.columns → get_or stamps r 0 < made.epoch * 2 ^ 40) → made.tries + 3 ≤ 2 ^ 40 → ((r : ℕ) → get_or made.columns r 0 ≤ 4) → CanOpen made
  can_open earlier few narrow = record {
    wide = f.wide;
    counter = f.counter;
    free = λ r l. (let e = f.word r l in omega arith);
    earlier = λ r l. (let e = f.word r l in let a = earlier r l in omega arith);
    row = λ r l. (slice_index_or rows r None, shows r l);
    few = few;
    columns = narrow;
  }

-- what holds of each number of a list holds of 0 past the end
pub past_end : (xs : List ℕ) → ((r : ℕ) → r < length xs → get_or xs r 0 ≤ 4) → (r : ℕ) → get_or xs r 0 ≤ 4
past_end [] h r = omega arith
past_end (x ∷ xs) h zero = h 0 (omega arith)
past_end (x ∷ xs) h (suc r) = past_end xs (λ q l. h (suc q) (omega arith)) r
