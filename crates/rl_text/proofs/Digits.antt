-- What digits stand for.
use Rattle.std.proofs.Common.{◌≡◌, ℕ, ◌+◌, ◌-◌, ◌*◌, ◌<◌, ◌≤◌, true, List, [], ◌∷◌, length, get_or, drop, arith, zero, suc}
use Rattle.std.specs.List.{list_all}
use Rattle.std.proofs.lemmas.List.{at_drop_more, at_drop_all}
use Rattle.std.proofs.lemmas.Bool.Decides.{nat_tests}
use Rattle.rl_text.specs.Numbers.{value_onto, is_digit}

-- more digits make no smaller number
pub value_grows : (n : ℕ) (digits : List ℕ) → n ≤ value_onto n digits
value_grows n [] = omega arith
value_grows n (d ∷ digits) = omega (arith, value_grows (10 * n + (d - 48)) digits)

pub value_more : (digits : List ℕ) (n i : ℕ) → i < length digits → value_onto n (drop i digits) ≡ value_onto (10 * n + (get_or digits i 0 - 48)) (drop (i + 1) digits)
value_more digits n i h = at_drop_more (value_onto n) digits i 0 h

pub digit_at : (digits : List ℕ) (i : ℕ) → list_all is_digit digits ≡ true → i < length digits → 48 ≤ get_or digits i 0
digit_at [] i all h = absurd (omega arith)
digit_at (d ∷ digits) zero all h = grind (arith, nat_tests)
digit_at (d ∷ digits) (suc i) all h = digit_at digits i (grind (arith, nat_tests)) (omega arith)

pub value_end : (digits : List ℕ) (n i : ℕ) → length digits ≤ i → value_onto n (drop i digits) ≡ n
value_end digits n i h = at_drop_all (value_onto n) digits i h

pub ruleset digits = (value_grows, value_more, digit_at, value_end)
