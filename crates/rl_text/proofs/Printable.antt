-- Printable characters are text.
use Rattle.std.proofs.Common.{◌≡◌, ℕ, true, List, [], ◌∷◌, arith, zero, suc}
use Rattle.std.specs.Str.{IsUtf8, IsAscii}
use Rattle.std.proofs.lemmas.Str.{IsUtf8-from_ascii}
use Rattle.std.proofs.lemmas.Bool.Decides.{nat_tests}
use Rattle.rl_text.specs.Text.{is_printable}

small : (line : List ℕ) → is_printable line ≡ true → IsAscii line
small [] h i = omega arith
small (b ∷ line) h zero = grind (arith, nat_tests)
small (b ∷ line) h (suc i) = small line (grind (arith, nat_tests)) i

pub printable_text : (line : List ℕ) → is_printable line ≡ true → IsUtf8 line
printable_text line h = IsUtf8-from_ascii line (small line h)
