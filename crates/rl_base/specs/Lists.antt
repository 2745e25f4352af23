-- Parts of lists, lists of lists, and functions of a number.
use Rattle.std.specs.Prelude.{◌≡◌, ◌==◌, ℕ, List, [], ◌∷◌, ◌++◌, zero, suc, if◌then◌else◌}

-- one list begins the other
abbrev pub IsPrefix : {X : Type 0} → List X → List X → Type 0
IsPrefix {X} xs ys = (rest : List X) × (xs ++ rest ≡ ys)

-- the lists with one more element at the end of one of them
abbrev pub with_last : {X : Type 0} → List (List X) → ℕ → X → List (List X)
with_last [] i x = []
with_last (list ∷ lists) zero x = (list ++ x ∷ []) ∷ lists
with_last (list ∷ lists) (suc i) x = list ∷ with_last lists i x

-- a function with another value at one number
abbrev pub updated : {A : Type 0} → (ℕ → A) → ℕ → A → ℕ → A
updated f i x j = if j == i then x else f j
