-- What words must be: numbers, and numbers in a range.
use Rattle.std.specs.Prelude.{ℕ, List, ok_or, Result}
use Rattle.rl_text.specs.Numbers.{number_of, number_within}
use Rattle.rl_events.specs.declared.kind.Kind.{Kind}
use Rattle.rl_events.specs.declared.kind.Kind.TheVariants.{Number, Range}

-- a word that must be a number
abbrev pub number : List ℕ → Result ℕ Kind
number word = ok_or (number_of word) Number

-- a word that must be a number from low to high
abbrev pub within : (low high : ℕ) → List ℕ → Result ℕ Kind
within low high word = number_within low high Number Range word
