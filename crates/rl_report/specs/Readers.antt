-- Readers of lists, which are the words of a line or the lines of a text: a reader answers what the front of a list
-- stands for and what is left behind it, or what is wrong.
use Rattle.std.specs.Prelude.{ℕ, zero, suc, ◌+◌, Bool, List, [], ◌∷◌, Result, Ok, if◌then◌else◌}
use Rattle.rl_base.specs.Results.{◌>>=◌}

-- a reader of values of A from lists of X, with errors E
abbrev pub Reader : (X E A : Type 0) → Type 0
Reader X E A = List X → Result (A × List X) E

-- a value, and nothing is taken
abbrev pub always : {X E A : Type 0} → A → Reader X E A
always a xs = Ok (a, xs)

-- one value behind another
abbrev pub both : {X E A B : Type 0} → Reader X E A → Reader X E B → Reader X E (A × B)
both r s xs = r xs >>= λ a. s a.1 >>= λ b. Ok ((a.0, b.0), b.1)

-- what is made of a value
abbrev pub made : {X E A B : Type 0} → (A → B) → Reader X E A → Reader X E B
made f r xs = r xs >>= λ a. Ok (f a.0, a.1)

-- the one of two readers that a test of the list chooses
abbrev pub choice : {X E A : Type 0} → (List X → Bool) → Reader X E A → Reader X E A → Reader X E A
choice test r s xs = if test xs then r xs else s xs

-- so many values, one behind another
unfoldable pub several : {X E A : Type 0} → (count : ℕ) → Reader X E A → Reader X E (List A)
several zero r xs = Ok ([], xs)
several (suc count) r xs = r xs >>= λ a. several count r a.1 >>= λ vs. Ok (a.0 ∷ vs.0, vs.1)

-- values one behind another, each by its number, as long as a test holds; but at most so many
unfoldable pub many : {X E A : Type 0} → (most : ℕ) → (more : ℕ → List X → Bool) → (read : ℕ → Reader X E A) → (number : ℕ) → Reader X E (List A)
many zero more read number xs = Ok ([], xs)
many (suc most) more read number xs =
    if more number xs then read number xs >>= (λ a. many most more read (number + 1) a.1 >>= λ vs. Ok (a.0 ∷ vs.0, vs.1))
    else Ok ([], xs)
