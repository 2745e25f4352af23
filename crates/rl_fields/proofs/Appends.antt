-- What was appended by several calls, one after another.
use Rattle.std.proofs.Common.{◌≡◌, ℕ, ◌+◌, ◌<◌, List, [], ◌∷◌, ◌++◌, length, get_or, take, ap, sym, ◌∙◌, append_assoc}
use Rattle.std.specs.List.{flat_map}
use Rattle.std.proofs.lemmas.List.{take_more, flat_map_more}

pub appended : (old middle new prefix back : List ℕ) → middle ≡ old ++ prefix → new ≡ middle ++ back → new ≡ old ++ (prefix ++ back)
appended old middle new prefix back first second = second ∙ ap (λ (bytes : List ℕ). bytes ++ back) first ∙ append_assoc old prefix back

-- one more element of a list is appended
pub appended_more : {X : Type 0} (encoding : X → List ℕ) (xs : List X) (i : ℕ) (x : X) (old middle new : List ℕ) → i < length xs → x ≡ get_or xs i x
    → middle ≡ old ++ flat_map encoding (take i xs) → new ≡ middle ++ encoding x → new ≡ old ++ flat_map encoding (take (i + 1) xs)
appended_more {X = X} encoding xs i x old middle new within is so_far last =
    let prefix : take (i + 1) xs ≡ take i xs ++ x ∷ [] = take_more xs i x within ∙ ap (λ (y : X). take i xs ++ y ∷ []) (sym is) in
    last ∙ ap (λ (bytes : List ℕ). bytes ++ encoding x) so_far ∙ flat_map_more encoding old (take i xs) x ∙ ap (λ (ys : List X). old ++ flat_map encoding ys) (sym prefix)
