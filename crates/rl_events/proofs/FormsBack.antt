-- A line of so many words is made of what its words are read as.
use Rattle.std.proofs.Common.{◌≡◌, ℕ, List, [], ◌∷◌, Ok, ap, ◌∙◌}
use Rattle.rl_base.specs.Results.{◌>>=◌}
use Rattle.rl_events.specs.Forms.{Reading, one_word, two_words, three_words, four_words}

pub one_word_back : {A X : Type 0} (make : A → X) (read : Reading A) (v : List ℕ) (a : A) → read v ≡ Ok a → one_word make read (v ∷ []) ≡ Ok (make a)
one_word_back make read v a is = ap (λ r. r >>= λ a. Ok (make a)) is

pub two_words_back : {A B X : Type 0} (make : A → B → X) (first : Reading A) (second : Reading B) (v w : List ℕ) (a : A) (b : B) → first v ≡ Ok a → second w ≡ Ok b → two_words make first second (v ∷ w ∷ []) ≡ Ok (make a b)
two_words_back make first second v w a b is next =
    ap (λ r. r >>= λ a. second w >>= λ b. Ok (make a b)) is ∙ ap (λ r. r >>= λ b. Ok (make a b)) next

pub three_words_back : {A B C X : Type 0} (make : A → B → C → X) (first : Reading A) (second : Reading B) (third : Reading C) (v w x : List ℕ) (a : A) (b : B) (c : C) → first v ≡ Ok a → second w ≡ Ok b → third x ≡ Ok c → three_words make first second third (v ∷ w ∷ x ∷ []) ≡ Ok (make a b c)
three_words_back make first second third v w x a b c is next last =
    ap (λ r. r >>= λ a. second w >>= λ b. third x >>= λ c. Ok (make a b c)) is
    ∙ ap (λ r. r >>= λ b. third x >>= λ c. Ok (make a b c)) next
    ∙ ap (λ r. r >>= λ c. Ok (make a b c)) last

pub four_words_back : {A B C D X : Type 0} (make : A → B → C → D → X) (first : Reading A) (second : Reading B) (third : Reading C) (fourth : Reading D) (v w x y : List ℕ) (a : A) (b : B) (c : C) (d : D) → first v ≡ Ok a → second w ≡ Ok b → third x ≡ Ok c → fourth y ≡ Ok d → four_words make first second third fourth (v ∷ w ∷ x ∷ y ∷ []) ≡ Ok (make a b c d)
four_words_back make first second third fourth v w x y a b c d is next later last =
    ap (λ r. r >>= λ a. second w >>= λ b. third x >>= λ c. fourth y >>= λ d. Ok (make a b c d)) is
    ∙ ap (λ r. r >>= λ b. third x >>= λ c. fourth y >>= λ d. Ok (make a b c d)) next
    ∙ ap (λ r. r >>= λ c. fourth y >>= λ d. Ok (make a b c d)) later
    ∙ ap (λ r. r >>= λ d. Ok (make a b c d)) last
