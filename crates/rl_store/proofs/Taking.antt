-- The words and rows that a closed store is read into.
use Rattle.std.proofs.Common.{◌≡◌, ℕ, zero, suc, ◌+◌, ◌<◌, List, [], ◌∷◌, ◌++◌, length, get_or, refl, sym, ◌∙◌, subst, arith, length-append}
use Rattle.std.specs.Prelude.{None, slice_index_or}
use Rattle.std.proofs.lemmas.List.{get_or_append_left}
use mathlib.Core.Logic.{dite}
use native.Mathlib.Decide.{ℕ_discrete}
use Rattle.rl_store.specs.Entries.{RowOf}
use Rattle.rl_store.specs.Layout.{place, HasRow}

-- the first k words and rows are those of the first k records
pub record Taken (columns : ℕ → ℕ) (ws : List ℕ) (k : ℕ) (words : List ℕ) (rows : List RowOf) : Type 0 where
  pub long : length words ≡ k
  pub many : length rows ≡ k
  pub word : (r : ℕ) → r < k → get_or words r 0 ≡ get_or ws (place r) 0
  pub row : (r : ℕ) → r < k → HasRow (columns r) ws r (slice_index_or rows r None)

pub taken_none : (columns : ℕ → ℕ) (ws : List ℕ) → Taken columns ws 0 [] []
taken_none columns ws = record { long = refl; many = refl; word = λ r l. absurd (omega arith); row = λ r l. absurd (omega arith) }

last_of : {X : Type 0} (xs : List X) (x d : X) (k : ℕ) → length xs ≡ k → get_or (xs ++ x ∷ []) k d ≡ x
last_of [] x d zero e = refl
last_of [] x d (suc k) e = absurd (omega arith)
last_of (y ∷ ys) x d zero e = absurd (omega arith)
last_of (y ∷ ys) x d (suc k) e = last_of ys x d k (omega arith)

pub taken_more : (columns : ℕ → ℕ) (ws : List ℕ) (k : ℕ) (words : List ℕ) (rows : List RowOf) (word : ℕ) (row : RowOf) → Taken columns ws k words rows → word ≡ get_or ws (place k) 0 → HasRow (columns k) ws k row
    → Taken columns ws (k + 1) (words ++ word ∷ []) (rows ++ row ∷ [])
taken_more columns ws k words rows word row t is has = record {
  long = (let a = length-append words (word ∷ []) in let b = t.long in omega arith);
  many = (let a = length-append rows (row ∷ []) in let b = t.many in omega arith);
  word = λ r l. dite (ℕ_discrete r k)
      (λ e. subst (λ q. get_or (words ++ word ∷ []) q 0 ≡ get_or ws (place q) 0) (sym e) (last_of words word 0 k t.long ∙ is))
      (λ ne. let m : r < k = omega arith in get_or_append_left words (word ∷ []) 0 r (let b = t.long in omega arith) ∙ t.word r m);
  row = λ r l. dite (ℕ_discrete r k)
      (λ e. subst (λ q. HasRow (columns q) ws q (slice_index_or (rows ++ row ∷ []) q None)) (sym e) (subst (HasRow (columns k) ws k) (sym (last_of rows row None k t.many)) has))
      (λ ne. let m : r < k = omega arith in subst (HasRow (columns r) ws r) (sym (get_or_append_left rows (row ∷ []) None r (let b = t.many in omega arith))) (t.row r m));
}
