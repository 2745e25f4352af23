-- What some bytes say from left to right. A reader answers a value and the bytes after it, or the first fault.
use Rattle.std.specs.Prelude.{ℕ, zero, suc, ◌&&◌, List, [], ◌∷◌, length, take, drop, nat_lt, nat_le, Result, Ok, Err, if◌then◌else◌}
use Rattle.byteorder.specs.Endian.{big_number}
use Rattle.rl_base.specs.Results.{◌>>=◌}
use Rattle.rl_base.specs.declared.flaw.Flaw.TheVariants.{Short, Range, Extra}
use Rattle.rl_fields.specs.declared.fault.Fault.{Fault}
use Rattle.rl_fields.specs.Faults.{fault_at}

-- a number of n bytes, the highest first
unfoldable pub number : (n : ℕ) → (bytes : List ℕ) → Result (ℕ × List ℕ) Fault
number n bytes = if nat_lt (length bytes) n then Err (fault_at bytes Short) else Ok (big_number n bytes, drop n bytes)

-- a number of n bytes from low to high
unfoldable pub within : (n low high : ℕ) → (bytes : List ℕ) → Result (ℕ × List ℕ) Fault
within n low high bytes = do
  x ← number n bytes
  if nat_le low x.0 && nat_le x.0 high then Ok x else Err (fault_at bytes Range)

-- n bytes, whatever they are
unfoldable pub string : (n : ℕ) → (bytes : List ℕ) → Result (List ℕ × List ℕ) Fault
string n bytes = if nat_lt (length bytes) n then Err (fault_at bytes Short) else Ok (take n bytes, drop n bytes)

-- n values, one after another, where `next` says of each value what the reader of the one after it is told
unfoldable pub series : {S A : Type 0} → (read : S → List ℕ → Result (A × List ℕ) Fault) → (next : A → S)
    → (n : ℕ) → (told : S) → (bytes : List ℕ) → Result (List A × List ℕ) Fault
series read next zero told bytes = Ok ([], bytes)
series read next (suc n) told bytes = do
  first ← read told bytes
  others ← series read next n (next first.0) first.1
  Ok (first.0 ∷ others.0, others.1)

-- n values, one after another, each read alike
unfoldable pub several : {A : Type 0} → (read : List ℕ → Result (A × List ℕ) Fault)
    → (n : ℕ) → (bytes : List ℕ) → Result (List A × List ℕ) Fault
several read zero bytes = Ok ([], bytes)
several read (suc n) bytes = do
  first ← read bytes
  others ← several read n first.1
  Ok (first.0 ∷ others.0, others.1)

-- a value that no byte follows
abbrev pub alone : {A : Type 0} → A → (bytes : List ℕ) → Result A Fault
alone x [] = Ok x
alone x (b ∷ bytes) = Err (fault_at (b ∷ bytes) Extra)

-- the value that all the bytes are
unfoldable pub whole : {A : Type 0} → (read : List ℕ → Result (A × List ℕ) Fault) → (bytes : List ℕ) → Result A Fault
whole read bytes = do
  x ← read bytes
  alone x.0 x.1
