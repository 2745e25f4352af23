-- The row that the words of a record show.
use Rattle.std.proofs.Common.{◌≡◌, ◌≢◌, ℕ, zero, suc, ◌+◌, ◌*◌, ◌<◌, ◌≤◌, List, ◌∷◌, [], length, get_or, take, refl, sym, ap, ◌∙◌, arith}
use Rattle.std.specs.Prelude.{Some, None}
use Rattle.std.proofs.lemmas.List.{length-take-le}
use mathlib.Core.Option.{some, some-injective, some-ne-none}
use lib.ListN.{get_elem?}
use Rattle.rl_shared_replay.specs.Layout.{RowOf, cell_place, Shows}
use Rattle.rl_shared_replay.proofs.Settling.{taken_at}
use Rattle.rl_shared_replay.proofs.Storing.{same_cells}

pub at_get : (l : List ℕ) (i a : ℕ) → get_elem? l i ≡ some a → get_or l i 0 ≡ a
at_get [] i a e = absurd (some-ne-none a (sym e))
at_get (x ∷ xs) zero a e = some-injective x a e
at_get (x ∷ xs) (suc i) a e = at_get xs i a e

-- the four columns of a record
pub four_at : (ws : List ℕ) (r a b c d : ℕ) → get_or ws (3 + 6 * r) 0 ≡ a → get_or ws (4 + 6 * r) 0 ≡ b → get_or ws (5 + 6 * r) 0 ≡ c → get_or ws (6 + 6 * r) 0 ≡ d
    → (k : ℕ) → k < 4 → get_or (a ∷ b ∷ c ∷ d ∷ []) k 0 ≡ get_or ws (cell_place r (suc k)) 0
four_at ws r a b c d e f g h zero l = sym e ∙ ap (λ n. get_or ws n 0) (let z : 3 + 6 * r ≡ 2 + (6 * r + 1) = omega arith in z)
four_at ws r a b c d e f g h (suc zero) l = sym f ∙ ap (λ n. get_or ws n 0) (let z : 4 + 6 * r ≡ 2 + (6 * r + 2) = omega arith in z)
four_at ws r a b c d e f g h (suc (suc zero)) l = sym g ∙ ap (λ n. get_or ws n 0) (let z : 5 + 6 * r ≡ 2 + (6 * r + 3) = omega arith in z)
four_at ws r a b c d e f g h (suc (suc (suc zero))) l = sym h ∙ ap (λ n. get_or ws n 0) (let z : 6 + 6 * r ≡ 2 + (6 * r + 4) = omega arith in z)
four_at ws r a b c d e f g h (suc (suc (suc (suc k)))) l = absurd (omega arith)

-- the row of its first columns
pub columns_at : (ws : List ℕ) (r a b c d columns : ℕ) → columns ≤ 4 → get_or ws (3 + 6 * r) 0 ≡ a → get_or ws (4 + 6 * r) 0 ≡ b → get_or ws (5 + 6 * r) 0 ≡ c → get_or ws (6 + 6 * r) 0 ≡ d
    → (cells : List ℕ) → cells ≡ take columns (a ∷ b ∷ c ∷ d ∷ []) → (length cells ≡ columns) × ((k : ℕ) → k < columns → get_or cells k 0 ≡ get_or ws (cell_place r (suc k)) 0)
columns_at ws r a b c d columns few e f g h cells is =
    let long : length (take columns (a ∷ b ∷ c ∷ d ∷ [])) ≡ columns = length-take-le columns (a ∷ b ∷ c ∷ d ∷ []) few in (
      ap length is ∙ long,
      λ k l. ap (λ (x : List ℕ). get_or x k 0) is ∙ (taken_at columns (a ∷ b ∷ c ∷ d ∷ []) k (omega arith) ∙ four_at ws r a b c d e f g h k (omega arith)),
    )

pub no_row : (columns : ℕ) (ws : List ℕ) (r : ℕ) (row : RowOf) → get_or ws (cell_place r 0) 0 ≡ 0 → Shows columns ws r row → None ≡ row
no_row columns ws r None e s = refl
no_row columns ws r (Some row) e s = absurd (let z = s.1 0 (omega arith) in omega arith)

pub some_row : (columns : ℕ) (ws : List ℕ) (r : ℕ) (row : RowOf) (cells : List ℕ) → get_or ws (cell_place r 0) 0 ≢ 0 → length cells ≡ columns → ((k : ℕ) → k < columns → get_or cells k 0 ≡ get_or ws (cell_place r (suc k)) 0) → Shows columns ws r row → Some cells ≡ row
some_row columns ws r None cells n long at s = absurd (n (s.1 0 (omega arith)))
some_row columns ws r (Some row) cells n long at s =
    ap (λ (l : List ℕ). Some l) (same_cells cells row columns long (let z = s.0 in omega arith) (λ k l. at k l ∙ s.1 (suc k) (omega arith)))
