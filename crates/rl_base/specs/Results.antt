-- What follows a result.
use Rattle.std.specs.Prelude.{Result, Ok, Err}

-- what comes next of a value, or the error where there is none
infixl 10 ◌>>=◌
abbrev pub ◌>>=◌ : {A B E : Type 0} → Result A E → (A → Result B E) → Result B E
(Ok x) >>= f = f x
(Err e) >>= f = Err e
