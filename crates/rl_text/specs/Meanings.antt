-- What words stand for.
use Rattle.std.specs.Prelude.{ℕ, List, [], ◌∷◌, Option, Some, None, if◌then◌else◌}
use Rattle.std.specs.Str.{bytes_eq}

-- what a word stands for, where some words are listed with what each of them does
abbrev pub meaning : {A : Type 0} → List (List ℕ × A) → List ℕ → Option A
meaning [] word = None
meaning (entry ∷ entries) word = if bytes_eq word entry.0 then Some entry.1 else meaning entries word
