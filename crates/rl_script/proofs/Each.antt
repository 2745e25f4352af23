-- What each of some words is, one word after another.
use Rattle.std.proofs.Common.{◌≡◌, ℕ, ◌+◌, ◌<◌, ◌≤◌, List, [], ◌∷◌, ◌++◌, length, map, drop, get_or, Result, Ok, Err, refl, ap, sym, ◌∙◌, append-nil}
use Rattle.std.proofs.lemmas.List.{at_drop_more, at_drop_all, append_assoc}
use denote.Bor.{Bor}
use Rattle.rl_base.specs.Results.{◌>>=◌}
use Rattle.rl_events.specs.declared.kind.Kind.{Kind}
use Rattle.rl_script.specs.Answers.{Fails}
use Rattle.rl_script.specs.Problems.{as_problem}
use Rattle.rl_script.specs.Operations.{each_word}
use Rattle.rl_script.specs.declared.fault.LineError.{LineError}
use Rattle.rl_script.specs.declared.fault.LineError.TheVariants as errors
use Rattle.rl_script.specs.declared.fault.Problem.TheVariants.{Fault}

-- what was read before, and then more
abbrev pub onto : {A : Type 0} → List A → Result (List A) Kind → Result (List A) Kind
onto before rest = rest >>= λ xs. Ok (before ++ xs)

one_more : {A : Type 0} (read : List ℕ → Result A Kind) → (before : List A) (word : List ℕ) (words : List (List ℕ)) (x : A) → read word ≡ Ok x → onto before (each_word read (word ∷ words)) ≡ onto (before ++ x ∷ []) (each_word read words)
unfolding each_word
one_more {A = A} read before word words x is = ap (λ r. onto before (r >>= λ x. each_word read words >>= λ xs. Ok (x ∷ xs))) is ∙ here (each_word read words)
  where
    here : (r : Result (List A) Kind) → onto before (r >>= λ xs. Ok (x ∷ xs)) ≡ onto (before ++ x ∷ []) r
    here (Ok xs) = ap Ok (sym (append_assoc before (x ∷ []) xs))
    here (Err kind) = refl

one_wrong : {A : Type 0} (read : List ℕ → Result A Kind) → (before : List A) (word : List ℕ) (words : List (List ℕ)) (kind : Kind) → read word ≡ Err kind → onto before (each_word read (word ∷ words)) ≡ Err kind
unfolding each_word
one_wrong read before word words kind is = ap (λ r. onto before (r >>= λ x. each_word read words >>= λ xs. Ok (x ∷ xs))) is

pub each_more : {A : Type 0} (read : List ℕ → Result A Kind) → (before : List A) (words : List (Bor (List ℕ))) (i : ℕ) (d : Bor (List ℕ)) (x : A) → i < length words → read (get_or words i d).now ≡ Ok x → onto before (each_word read (map (λ w. w.now) (drop i words))) ≡ onto (before ++ x ∷ []) (each_word read (map (λ w. w.now) (drop (i + 1) words)))
each_more read before words i d x within is = at_drop_more (λ ws. onto before (each_word read (map (λ w. w.now) ws))) words i d within ∙ one_more read before (get_or words i d).now (map (λ w. w.now) (drop (i + 1) words)) x is

pub each_wrong : {A : Type 0} (read : List ℕ → Result A Kind) → (before : List A) (words : List (Bor (List ℕ))) (i : ℕ) (d : Bor (List ℕ)) (kind : Kind) → i < length words → read (get_or words i d).now ≡ Err kind → onto before (each_word read (map (λ w. w.now) (drop i words))) ≡ Err kind
each_wrong read before words i d kind within is = at_drop_more (λ ws. onto before (each_word read (map (λ w. w.now) ws))) words i d within ∙ one_wrong read before (get_or words i d).now (map (λ w. w.now) (drop (i + 1) words)) kind is

pub each_first : {A : Type 0} (r : Result (List A) Kind) → onto [] r ≡ r
each_first (Ok xs) = refl
each_first (Err kind) = refl

pub each_last : {A : Type 0} (read : List ℕ → Result A Kind) → (before : List A) (words : List (Bor (List ℕ))) (i : ℕ) → length words ≤ i → onto before (each_word read (map (λ w. w.now) (drop i words))) ≡ Ok before
unfolding each_word
each_last read before words i past = at_drop_all (λ ws. onto before (each_word read (map (λ w. w.now) ws))) words i past ∙ ap Ok (append-nil before)

-- a fault of a word is what is wrong
pub failed : {A : Type 0} (e : LineError) (kind : Kind) (r : Result A Kind) → e ≡ errors.Problem (Fault kind) → r ≡ Err kind → Fails e (as_problem r)
failed e kind r is wrong = rw (is, wrong) refl

pub ruleset each = (each_more, each_wrong, each_first, each_last)
