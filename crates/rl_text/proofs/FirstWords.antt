-- The first words of a line.
use Rattle.std.proofs.Common.{◌≡◌, ◌≢◌, ℕ, ◌+◌, ◌<◌, ◌≤◌, ◌==◌, not, true, false, cond, List, [], ◌∷◌, ◌++◌, All, filter, length, take, map, get_or, if◌then◌else◌, inl, inr, set, append-nil, length-append, add-one, refl, ap, sym, ◌∙◌, arith}
use Rattle.std.specs.List.{slice_split}
use Rattle.std.proofs.lemmas.Bool.{cases_lt}
use Rattle.std.proofs.lemmas.Grind.{get_or_default_zero}
use Rattle.std.proofs.lemmas.List.{take_all, take_at, map-append, append_assoc}
use Rattle.std.proofs.Math.Seq.{take-suc-set}
use Rattle.std.proofs.lemmas.List.Splits.{slice_split_at, slice_split_none}
use Rattle.std.proofs.lemmas.Bool.Decides.{nat_tests}
use Rattle.rl_text.specs.Text.{words_of}

other : (b : ℕ) → b ≢ 32 → (b == 32) ≡ false
other b h = grind (arith, nat_tests)

no_space : (word : List ℕ) → ((i : ℕ) → i < length word → get_or word i 0 ≢ 32) → All (λ b. (b == 32) ≡ false) word
no_space word h = λ k d within. other (get_or word k d) (λ is. h k within (sym (get_or_default_zero word k d within) ∙ is))

kept : (word : List ℕ) (pieces : List (List ℕ)) → filter (λ w. not (length w == 0)) (word ∷ pieces) ≡ (if length word == 0 then filter (λ w. not (length w == 0)) pieces else word ∷ filter (λ w. not (length w == 0)) pieces)
kept [] pieces = refl
kept (b ∷ word) pieces = grind (arith, nat_tests)

-- a line with a space
pub words_more : (line word after : List ℕ) → line ≡ word ++ (32 ∷ after) → ((i : ℕ) → i < length word → get_or word i 0 ≢ 32) → words_of line ≡ (if length word == 0 then words_of after else word ∷ words_of after)
words_more line word after is none =
    ap (filter (λ w. not (length w == 0))) (ap (slice_split (λ b. b == 32)) is ∙ slice_split_at (λ b. b == 32) word 32 after (no_space word none) refl) ∙ kept word (slice_split (λ b. b == 32) after)

-- a line without one
pub words_one : (line : List ℕ) → ((i : ℕ) → i < length line → get_or line i 0 ≢ 32) → words_of line ≡ (if length line == 0 then words_of [] else line ∷ words_of [])
words_one line none = ap (filter (λ w. not (length w == 0))) (slice_split_none (λ b. b == 32) line (no_space line none)) ∙ kept line []

pub after_shorter : (line word after : List ℕ) → line ≡ word ++ (32 ∷ after) → length after < length line
after_shorter line word after is = omega (arith, ap length is, length-append word (32 ∷ after))

pub no_bytes : (bytes : List ℕ) → (length bytes == 0) ≡ true → bytes ≡ []
no_bytes [] h = refl
no_bytes (b ∷ bytes) h = absurd (grind (arith, nat_tests))

-- the words in front are the first five, where they are five or no more come
pub first_five : (front all : List (List ℕ)) (rest : List ℕ) → front ++ words_of rest ≡ all → length front ≤ 5 → (length front < 5 → rest ≡ []) → front ≡ take 5 all
first_five front all rest is few done = elim (cases_lt (length front) 5) [
  | inl less ↦
      let none : words_of rest ≡ [] = ap words_of (done less) in
      let whole : front ≡ all = sym (append-nil front) ∙ ap (λ ws. front ++ ws) (sym none) ∙ is in
      whole ∙ sym (take_all 5 all (rw whole at few))
  | inr not_less ↦ sym (ap (take 5) (sym is) ∙ take_at front (words_of rest) 5 (omega arith))
]

pub more_words : {X : Type 0} (f : X → List ℕ) → (words : List X) (count : ℕ) (word : X) → count < length words → map f (take (count + 1) (set words count word)) ≡ map f (take count words) ++ f word ∷ []
more_words f words count word within = rw add-one (ap (map f) (take-suc-set words count word within) ∙ map-append f (take count words) (word ∷ []))

-- one more word in front, and the words after it
pub go_on : (before now : List (List ℕ)) (word rest after line : List ℕ) → now ≡ before ++ word ∷ [] → before ++ words_of rest ≡ words_of line → words_of rest ≡ (if length word == 0 then words_of after else word ∷ words_of after) → (length word == 0) ≡ false → now ++ words_of after ≡ words_of line
go_on before now word rest after line is same cut some =
    let here : words_of rest ≡ word ∷ words_of after = cut ∙ ap (λ b. cond b (words_of after) (word ∷ words_of after)) some in
    ap (λ ws. ws ++ words_of after) is ∙ append_assoc before (word ∷ []) (words_of after) ∙ ap (λ ws. before ++ ws) (sym here) ∙ same
