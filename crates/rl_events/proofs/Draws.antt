-- The words that a generator draws, one after another.
use Rattle.std.proofs.Common.{◌≡◌, ℕ, ◌+◌, zero, suc, List, [], ◌∷◌, ◌++◌, map, refl, sym, ap, ◌∙◌, add-one, append_assoc, append-nil}
use Rattle.rand_core.specs.Steps.{first_words, stream_of, steps_u32}
use Rattle.rand_core.specs.Stream.{Stream, next_u32}
use Rattle.rand_core.proofs.StepsLemmas.{next_u32-stream_of}

-- no words are drawn any more
pub none_left : {X : Type 0} (f : ℕ → X) (before : List X) (left : ℕ) (s : Stream) → left ≡ 0 → before ++ map f (first_words next_u32 left s) ≡ before
unfolding first_words
none_left f before left s none = rw none (append-nil before)

-- one word is drawn and its value appended, and the others come after it
pub one_drawn : {X : Type 0} (f : ℕ → X) (before after : List X) (x : X) (left later word : ℕ) (s t : Stream)
    → (word, t) ≡ next_u32 s → x ≡ f word → after ≡ before ++ x ∷ [] → later + 1 ≡ left
    → after ++ map f (first_words next_u32 later t) ≡ before ++ map f (first_words next_u32 left s)
unfolding first_words
one_drawn f before after x left later word s t drawn is pushed fewer =
    ap (λ xs. xs ++ map f (first_words next_u32 later t)) (pushed ∙ ap (λ y. before ++ y ∷ []) is)
    ∙ append_assoc before (f word ∷ []) (map f (first_words next_u32 later t))
    ∙ ap (λ (p : ℕ × Stream). before ++ f p.0 ∷ map f (first_words next_u32 later p.1)) drawn
    ∙ ap (λ n. before ++ map f (first_words next_u32 n s)) (sym (add-one later) ∙ fewer)

-- the words of a stream of 32-bit words are those that its step gives
pub words_of_stream : {S : Type 0} (step : S → ℕ × S) (count : ℕ) (state : S) → first_words next_u32 count (stream_of (steps_u32 step) state) ≡ first_words step count state
unfolding first_words
words_of_stream step zero state = refl
words_of_stream step (suc count) state =
    let drawn = next_u32-stream_of (steps_u32 step) state in
    ap (λ (p : ℕ × Stream). p.0 ∷ first_words next_u32 count p.1) drawn
    ∙ ap (λ words. (step state).0 ∷ words) (words_of_stream step count (step state).1)
