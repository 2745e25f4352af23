-- What a line of so many words stands for: `Count` where it has another number of words, and else what is made of
-- its words, each read as its place wants it, from left to right.
use Rattle.std.specs.Prelude.{ℕ, List, [], ◌∷◌, Result, Ok, Err}
use Rattle.rl_base.specs.Results.{◌>>=◌}
use Rattle.rl_events.specs.declared.kind.Kind.{Kind}
use Rattle.rl_events.specs.declared.kind.Kind.TheVariants.{Count}

-- what a word is read as, or the rule that it breaks
abbrev pub Reading : Type 0 → Type 0
Reading A = List ℕ → Result A Kind

-- no words
abbrev pub no_words : {X : Type 0} → X → List (List ℕ) → Result X Kind
no_words made [] = Ok made
no_words made words = Err Count

-- one word
abbrev pub one_word : {A X : Type 0} → (A → X) → Reading A → List (List ℕ) → Result X Kind
one_word make a (v ∷ []) = a v >>= λ a. Ok (make a)
one_word make a words = Err Count

-- two words
abbrev pub two_words : {A B X : Type 0} → (A → B → X) → Reading A → Reading B → List (List ℕ) → Result X Kind
two_words make a b (v ∷ w ∷ []) = a v >>= λ a. b w >>= λ b. Ok (make a b)
two_words make a b words = Err Count

-- three words
abbrev pub three_words : {A B C X : Type 0} → (A → B → C → X) → Reading A → Reading B → Reading C → List (List ℕ) → Result X Kind
three_words make a b c (v ∷ w ∷ x ∷ []) = a v >>= λ a. b w >>= λ b. c x >>= λ c. Ok (make a b c)
three_words make a b c words = Err Count

-- four words
abbrev pub four_words : {A B C D X : Type 0} → (A → B → C → D → X) → Reading A → Reading B → Reading C → Reading D → List (List ℕ) → Result X Kind
four_words make a b c d (v ∷ w ∷ x ∷ y ∷ []) = a v >>= λ a. b w >>= λ b. c x >>= λ c. d y >>= λ d. Ok (make a b c d)
four_words make a b c d words = Err Count
