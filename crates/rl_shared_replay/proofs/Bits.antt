-- The lock bit of a word.
use Rattle.std.proofs.Common.{◌≡◌, ℕ, zero, suc, ◌+◌, ◌/◌, ◌%◌, ap, ◌∙◌, arith}
use Rattle.std.specs.Prelude.{bit_or}
use Rattle.std.specs.Int.{bit_at}
use Rattle.std.proofs.lemmas.Nat.Bits.{bit_at_lowest, bit_at-suc, bit_at-zero, bit_at_or, same_from_bits}

pub set_locked : (n : ℕ) → n % 2 ≡ 1 → bit_or n 1 ≡ n
set_locked n odd = same_from_bits (bit_or n 1) n one
  where
    one : (i : ℕ) → bit_at (bit_or n 1) i ≡ bit_at n i
    one zero = let a = bit_at_or n 1 0 in let p = bit_at_lowest n in let q = bit_at_lowest 1 in omega arith
    one (suc i) = let a = bit_at_or n 1 (suc i) in let q = bit_at-suc 1 i ∙ bit_at-zero i in omega arith

pub set_free : (n : ℕ) → n % 2 ≡ 0 → bit_or n 1 ≡ n + 1
set_free n even = same_from_bits (bit_or n 1) (n + 1) one
  where
    half : (n + 1) / 2 ≡ n / 2
    half = omega arith

    one : (i : ℕ) → bit_at (bit_or n 1) i ≡ bit_at (n + 1) i
    one zero = let a = bit_at_or n 1 0 in let p = bit_at_lowest n in let q = bit_at_lowest 1 in let r = bit_at_lowest (n + 1) in omega arith
    one (suc i) = let a = bit_at_or n 1 (suc i) in let q = bit_at-suc 1 i ∙ bit_at-zero i in let s = bit_at-suc n i in let t = bit_at-suc (n + 1) i ∙ ap (λ m. bit_at m i) half in omega arith
