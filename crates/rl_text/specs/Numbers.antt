-- Words that are numbers.
use Rattle.std.specs.Prelude.{ℕ, ◌+◌, ◌-◌, ◌*◌, ◌^◌, ◌<◌, ◌≤◌, Bool, not, ◌&&◌, ◌||◌, List, [], ◌∷◌, length, ◌==◌, nat_lt, nat_le, slice_index, Option, Some, None, ok_or, Result, Ok, Err, if◌then◌else◌}
use Rattle.std.specs.List.{list_all}
use Rattle.rl_base.specs.Results.{◌>>=◌}

-- a number of 64 bits
abbrev pub IsNumber : ℕ → Type 0
IsNumber n = n < 2 ^ 64

-- a number from low to high
abbrev pub IsWithin : (low high : ℕ) → ℕ → Type 0
IsWithin low high n = (low ≤ n) × (n ≤ high)

-- 0 to 9
abbrev pub is_digit : ℕ → Bool
is_digit b = nat_le 48 b && nat_le b 57

-- what digits stand for, after the number so far
abbrev pub value_onto : ℕ → List ℕ → ℕ
value_onto n [] = n
value_onto n (d ∷ ds) = value_onto (10 * n + (d - 48)) ds

-- `0`, or digits without a zero in front
abbrev pub is_plain : List ℕ → Bool
is_plain word =
    list_all is_digit word && nat_lt 0 (length word)
    && ((length word == 1) || not (slice_index word 0 == 48))

-- the number that a word is, if it is one: of at most 20 digits, and below 2 ^ 64
abbrev pub number_of : List ℕ → Option ℕ
number_of word =
    if is_plain word && nat_le (length word) 20 && nat_lt (value_onto 0 word) (2 ^ 64)
    then Some (value_onto 0 word) else None

-- the number from low to high that a word is; else the error of a word that is no number,
-- or that of a number out of range
unfoldable pub number_within : {E : Type 0} → (low high : ℕ) → (none out : E) → List ℕ → Result ℕ E
number_within low high none out word = do
  n ← ok_or (number_of word) none
  if nat_le low n && nat_le n high then Ok n else Err out
