-- The text of lines that follow one another.
use Rattle.std.proofs.Common.{◌≡◌, ℕ, ◌≤◌, List, [], ◌∷◌, ◌++◌, length, map, take, ap, sym, refl, ◌∙◌, append-nil, append_assoc}
use Rattle.std.specs.List.{flat_map}
use Rattle.std.proofs.lemmas.Grind.{flat_map-append}
use Rattle.std.proofs.lemmas.List.{take_all}
use Rattle.std.proofs.lemmas.List.Folds.{flat_map-map}
use Rattle.rl_text.specs.Printed.{Line, line_of, text_of}

-- each word after the first comes after a space
line_by_words : (word : List ℕ) (words : List (List ℕ)) → line_of (word ∷ words) ≡ word ++ flat_map (λ w. 32 ∷ w) words
line_by_words word [] = sym (append-nil word)
line_by_words word (next ∷ words) = ap (λ t. word ++ 32 ∷ t) (line_by_words next words)

-- a line that goes on with words
pub line_joined : (first : List ℕ) (words more : List (List ℕ)) (before old new : List ℕ) → old ≡ before ++ line_of (first ∷ words) → new ≡ old ++ flat_map (λ w. 32 ∷ w) more → new ≡ before ++ line_of (first ∷ words ++ more)
line_joined first words more before old new is gone_on =
    let spaced : List (List ℕ) → List ℕ = flat_map (λ w. 32 ∷ w) in
    let whole : line_of (first ∷ words ++ more) ≡ line_of (first ∷ words) ++ spaced more =
    line_by_words first (words ++ more) ∙ ap (λ t. first ++ t) (flat_map-append (λ w. 32 ∷ w) words more)
    ∙ sym (append_assoc first (spaced words) (spaced more)) ∙ ap (λ t. t ++ spaced more) (sym (line_by_words first words)) in
    gone_on ∙ ap (λ t. t ++ spaced more) is ∙ append_assoc before (line_of (first ∷ words)) (spaced more) ∙ ap (λ t. before ++ t) (sym whole)

-- and with the word of each thing
pub line_more : {A : Type 0} (word_of : A → List ℕ) → (first : List ℕ) (words : List (List ℕ)) (xs : List A) (before old new : List ℕ) → old ≡ before ++ line_of (first ∷ words) → new ≡ old ++ flat_map (λ x. 32 ∷ word_of x) xs → new ≡ before ++ line_of (first ∷ words ++ map word_of xs)
line_more word_of first words xs before old new is more =
    line_joined first words (map word_of xs) before old new is (more ∙ ap (λ t. old ++ t) (sym (flat_map-map (λ w. 32 ∷ w) word_of xs)))

pub text_of-append : (xs ys : List Line) → text_of (xs ++ ys) ≡ text_of xs ++ text_of ys
text_of-append xs ys = flat_map-append (λ words. line_of words ++ 10 ∷ []) xs ys

-- a text that goes on with lines
pub text_joined : (xs ys zs : List Line) (before old new : List ℕ) → zs ≡ xs ++ ys → old ≡ before ++ text_of xs → new ≡ old ++ text_of ys → new ≡ before ++ text_of zs
text_joined xs ys zs before old new same is more =
    more ∙ ap (λ t. t ++ text_of ys) is ∙ append_assoc before (text_of xs) (text_of ys) ∙ ap (λ t. before ++ t) (sym (text_of-append xs ys) ∙ ap text_of (sym same))

-- a line that has its end
pub line_ended : (words : Line) (before old new : List ℕ) → old ≡ before ++ line_of words → new ≡ old ++ 10 ∷ [] → new ≡ before ++ text_of (words ∷ [])
line_ended words before old new is more =
    more ∙ ap (λ t. t ++ 10 ∷ []) is ∙ append_assoc before (line_of words) (10 ∷ []) ∙ ap (λ t. before ++ t) (sym (append-nil (line_of words ++ 10 ∷ [])))

-- a line that goes on with words, and has its end behind them
pub line_closed : (first : List ℕ) (words more : List (List ℕ)) (before old new : List ℕ) → old ≡ before ++ line_of (first ∷ words) → new ≡ old ++ flat_map (λ w. 32 ∷ w) more ++ 10 ∷ [] → new ≡ before ++ text_of ((first ∷ words ++ more) ∷ [])
line_closed first words more before old new is gone_on =
    line_ended (first ∷ words ++ more) before (old ++ flat_map (λ w. 32 ∷ w) more) new
    (line_joined first words more before old (old ++ flat_map (λ w. 32 ∷ w) more) is refl)
    gone_on

-- a text of a line for each thing, after the last
pub lines_done : {X : Type 0} (f : X → Line) → (xs items : List X) (i : ℕ) (before new : List ℕ) → items ≡ xs → length items ≤ i → new ≡ before ++ flat_map (λ x. line_of (f x) ++ 10 ∷ []) (take i items) → new ≡ before ++ text_of (map f xs)
lines_done f xs items i before new same past is =
    is ∙ ap (λ ys. before ++ flat_map (λ x. line_of (f x) ++ 10 ∷ []) ys) (take_all i items past ∙ same) ∙ ap (λ t. before ++ t) (sym (flat_map-map (λ words. line_of words ++ 10 ∷ []) f xs))

-- the text of the lines that each thing has
pub text_by_part : {X : Type 0} (f : X → List Line) → (xs : List X) → text_of (flat_map f xs) ≡ flat_map (λ x. text_of (f x)) xs
text_by_part f [] = refl
text_by_part f (x ∷ xs) = text_of-append (f x) (flat_map f xs) ∙ ap (λ t. text_of (f x) ++ t) (text_by_part f xs)

-- a text of some lines for each thing, after the last
pub parts_done : {X : Type 0} (f : X → List Line) → (xs items : List X) (i : ℕ) (before new : List ℕ) → items ≡ xs → length items ≤ i → new ≡ before ++ flat_map (λ x. text_of (f x)) (take i items) → new ≡ before ++ text_of (flat_map f xs)
parts_done f xs items i before new same past is =
    is ∙ ap (λ ys. before ++ flat_map (λ x. text_of (f x)) ys) (take_all i items past ∙ same) ∙ ap (λ t. before ++ t) (sym (text_by_part f xs))
