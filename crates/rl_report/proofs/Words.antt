-- Words can be printed.
use Rattle.std.proofs.Common.{◌≡◌, ℕ, ◌≤◌, suc, List, [], ◌∷◌, ◌++◌, map, All, true, ◌&&◌, nat_le, refl, ap, sym, ◌∙◌, append_assoc, arith}
use Rattle.std.specs.Fmt.{decimal}
use Rattle.std.proofs.lemmas.List.Folds.{flat_map-map}
use Rattle.std.specs.List.{flat_map, list_all}
use Rattle.std.proofs.lemmas.Bool.Decides.{nat_tests}
use Rattle.rl_base.proofs.Tests.{both_true}
use Rattle.rl_text.specs.Text.{is_printable}

pub word_printable : (word : List ℕ) → All (λ b. (33 ≤ b) × (b ≤ 126)) word → is_printable word ≡ true
word_printable [] h = refl
word_printable (b ∷ word) h =
    let first = h 0 b (omega arith) in
    both_true (nat_le 32 b && nat_le b 126) (list_all (λ b. nat_le 32 b && nat_le b 126) word) (byte b first.0 first.1) (word_printable word (λ k d l. h (suc k) d (omega arith)))
  where
    byte : (b : ℕ) → 33 ≤ b → b ≤ 126 → (nat_le 32 b && nat_le b 126) ≡ true
    byte b low high = grind (arith, nat_tests)

-- a cause: a word, a table and a key, and the words of a record, each after a space, and the line's end
pub cause_joined : (before said named keyed shown new why table key : List ℕ) (words : List ℕ) → said ≡ before ++ 32 ∷ why → named ≡ said ++ 32 ∷ table → keyed ≡ named ++ 32 ∷ key → shown ≡ keyed ++ flat_map (λ n. 32 ∷ decimal n) words → new ≡ shown ++ 10 ∷ []
    → new ≡ before ++ flat_map (λ w. 32 ∷ w) (why ∷ table ∷ key ∷ map decimal words) ++ 10 ∷ []
cause_joined before said named keyed shown new why table key words a b c d e =
    let numbers = flat_map (λ (n : ℕ). 32 ∷ decimal n) words in
    let up_to_key : keyed ≡ ((before ++ 32 ∷ why) ++ 32 ∷ table) ++ 32 ∷ key = c ∙ ap (λ z. z ++ 32 ∷ key) (b ∙ ap (λ z. z ++ 32 ∷ table) a) in
    e ∙ ap (λ z. z ++ 10 ∷ []) (d ∙ ap (λ z. z ++ numbers) up_to_key ∙ append_assoc ((before ++ 32 ∷ why) ++ 32 ∷ table) (32 ∷ key) numbers ∙ append_assoc (before ++ 32 ∷ why) (32 ∷ table) (32 ∷ key ++ numbers) ∙ append_assoc before (32 ∷ why) (32 ∷ table ++ (32 ∷ key ++ numbers))
    ∙ ap (λ z. before ++ (32 ∷ why ++ (32 ∷ table ++ (32 ∷ key ++ z)))) (sym (flat_map-map (λ w. 32 ∷ w) decimal words)))
