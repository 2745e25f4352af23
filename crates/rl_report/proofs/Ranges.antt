-- Lists that go on over a range.
use Rattle.std.proofs.Common.{◌≡◌, ℕ, ◌+◌, List, [], ◌∷◌, ◌++◌, ap, sym, ◌∙◌, add-one, append-nil, append_assoc, arith}
use Rattle.std.specs.List.{flat_map, range_with_len}
use Rattle.std.proofs.lemmas.Grind.{flat_map-append}
use Rattle.rl_txn.proofs.Folds.{range_push}

-- a list that goes on with what the next number has
pub list_over_range : {X : Type 0} (f : ℕ → List X) → (n : ℕ) (before old new : List X) → old ≡ before ++ flat_map f (range_with_len 0 n) → new ≡ old ++ f n → new ≡ before ++ flat_map f (range_with_len 0 (n + 1))
list_over_range f n before old new is more =
    let one : range_with_len 0 (n + 1) ≡ range_with_len 0 n ++ n ∷ [] = rw add-one (range_push 0 n ∙ ap (λ x. range_with_len 0 n ++ x ∷ []) (omega arith)) in
    more ∙ ap (λ xs. xs ++ f n) is ∙ append_assoc before (flat_map f (range_with_len 0 n)) (f n)
    ∙ ap (λ xs. before ++ xs) (ap (λ xs. flat_map f (range_with_len 0 n) ++ xs) (sym (append-nil (f n))) ∙ sym (flat_map-append f (range_with_len 0 n) (n ∷ [])) ∙ ap (flat_map f) (sym one))
