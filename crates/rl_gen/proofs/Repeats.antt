-- What is appended for one number after another, and what is appended again.
use Rattle.std.proofs.Common.{◌≡◌, ℕ, ◌+◌, List, [], ◌∷◌, ◌++◌, map, replicate, ap, sym, ◌∙◌, append_assoc, append-nil, arith}
use Rattle.std.specs.List.{flat_map, range_with_len}
use Rattle.std.proofs.lemmas.List.{replicate_more}
use Rattle.std.proofs.lemmas.List.Concat.{flat_map-append}
use Rattle.std.proofs.lemmas.List.FromFn.{map-range_with_len_more}

-- the element of the next number
pub of_the_next : {X : Type 0} (f : ℕ → X) (n : ℕ) (before old new : List X) → old ≡ before ++ map f (range_with_len 1 n) → new ≡ old ++ f (n + 1) ∷ []
    → new ≡ before ++ map f (range_with_len 1 (n + 1))
of_the_next f n before old new is more =
    more ∙ ap (λ xs. xs ++ f (n + 1) ∷ []) is ∙ append_assoc before (map f (range_with_len 1 n)) (f (n + 1) ∷ [])
    ∙ ap (λ xs. before ++ xs) (sym (map-range_with_len_more f 1 n (n + 1) (omega arith)))

-- the same elements once more
pub once_more : {X : Type 0} (xs : List X) (n : ℕ) (before old new : List X) → old ≡ before ++ flat_map (λ ys. ys) (replicate n xs) → new ≡ old ++ xs
    → new ≡ before ++ flat_map (λ ys. ys) (replicate (n + 1) xs)
once_more xs n before old new is more =
    let so_far = flat_map (λ ys. ys) (replicate n xs) in
    more ∙ ap (λ ys. ys ++ xs) is ∙ append_assoc before so_far xs
    ∙ ap (λ ys. before ++ ys) (ap (λ ys. so_far ++ ys) (sym (append-nil xs)) ∙ sym (flat_map-append (λ ys. ys) (replicate n xs) (xs ∷ [])) ∙ ap (flat_map (λ ys. ys)) (replicate_more n xs))

pub same_once_more : {X : Type 0} (x : X) (n : ℕ) (before old new : List X) → old ≡ before ++ replicate n x → new ≡ old ++ x ∷ [] → new ≡ before ++ replicate (n + 1) x
same_once_more x n before old new is more =
    more ∙ ap (λ xs. xs ++ x ∷ []) is ∙ append_assoc before (replicate n x) (x ∷ []) ∙ ap (λ xs. before ++ xs) (replicate_more n x)
