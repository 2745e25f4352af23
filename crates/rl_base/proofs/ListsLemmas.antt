-- Elements of lists, and lists of lists.
use Rattle.std.proofs.Common.{◌≡◌, ℕ, ◌<◌, List, [], ◌∷◌, ◌++◌, length, get_or, slice_get, Some, set, zero, suc, refl, ap, arith}
use Rattle.rl_base.specs.Lists.{with_last}

pub set_last : {X : Type 0} → (lists : List (List X)) (i : ℕ) (list : List X) (x : X) → i < length lists
    → set lists i (get_or lists i list ++ x ∷ []) ≡ with_last lists i x
set_last [] i list x within = absurd (omega arith)
set_last (l ∷ lists) zero list x within = refl
set_last (l ∷ lists) (suc i) list x within = ap (λ ls. l ∷ ls) (set_last lists i list x (omega arith))

-- the elements of a list stay where they are when others join them at its end
pub get_before : {X : Type 0} (xs : List X) (x : X) (i : ℕ) → i < length xs
    → slice_get (xs ++ x ∷ []) i ≡ slice_get xs i
get_before [] x i within = absurd (omega arith)
get_before (y ∷ xs) x zero within = refl
get_before (y ∷ xs) x (suc i) within = get_before xs x i (omega arith)

pub get_last : {X : Type 0} (xs : List X) (x : X) (more : List X) → slice_get (xs ++ x ∷ more) (length xs) ≡ Some x
get_last [] x more = refl
get_last (y ∷ xs) x more = get_last xs x more
