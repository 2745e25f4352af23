-- Lists of numbers by place.
use Rattle.std.proofs.Common.{◌≡◌, ℕ, zero, suc, ◌+◌, ◌<◌, ◌≤◌, List, [], ◌∷◌, ◌++◌, length, map, get_or, refl, ap, ◌∙◌, arith, zero-le, replicate}
use Rattle.std.proofs.lemmas.List.{map-append}
use Rattle.std.specs.List.{range_with_len}
use Rattle.rl_progress.specs.Rule.{greater_of_each}

pub greater_length : (xs ys : List ℕ) → length (greater_of_each xs ys) ≡ length xs
greater_length [] ys = refl
greater_length (x ∷ xs) [] = refl
greater_length (x ∷ xs) (y ∷ ys) = ap suc (greater_length xs ys)

pub greater_below : (xs ys : List ℕ) (i n : ℕ) → get_or xs i 0 ≤ n → get_or ys i 0 ≤ n → get_or (greater_of_each xs ys) i 0 ≤ n
greater_below [] ys i n p q = zero-le
greater_below (x ∷ xs) [] i n p q = p
greater_below (x ∷ xs) (y ∷ ys) zero n p q = omega arith
greater_below (x ∷ xs) (y ∷ ys) (suc i) n p q = greater_below xs ys i n p q

pub greater_same : (xs ys : List ℕ) (i : ℕ) → get_or ys i 0 ≤ get_or xs i 0 → get_or (greater_of_each xs ys) i 0 ≡ get_or xs i 0
greater_same [] ys i p = refl
greater_same (x ∷ xs) [] i p = refl
greater_same (x ∷ xs) (y ∷ ys) zero p = omega arith
greater_same (x ∷ xs) (y ∷ ys) (suc i) p = greater_same xs ys i p

pub get_or-zeros : (n i : ℕ) → (let z : ℕ = 0 in get_or (replicate n z) i z ≡ z)
get_or-zeros zero i = refl
get_or-zeros (suc n) zero = refl
get_or-zeros (suc n) (suc i) = get_or-zeros n i

-- lists of one length that have the same at each place are one list
pub same_at_each : (xs ys : List ℕ) → length xs ≡ length ys → ((i : ℕ) → i < length xs → get_or xs i 0 ≡ get_or ys i 0) → xs ≡ ys
same_at_each [] [] len at = refl
same_at_each [] (y ∷ ys) len at = absurd (omega arith)
same_at_each (x ∷ xs) [] len at = absurd (omega arith)
same_at_each (x ∷ xs) (y ∷ ys) len at =
    λ k. at 0 (omega arith) k ∷ same_at_each xs ys (omega arith) (λ i l. at (suc i) (omega arith)) k

pub get_or-raised : (xs : List ℕ) (i : ℕ) → i < length xs → get_or (map (λ n. n + 1) xs) i 0 ≡ get_or xs i 0 + 1
get_or-raised [] i l = absurd (omega arith)
get_or-raised (x ∷ xs) zero l = refl
get_or-raised (x ∷ xs) (suc i) l = get_or-raised xs i (omega arith)

range_more : (a n : ℕ) → range_with_len a (n + 1) ≡ range_with_len a n ++ (a + n) ∷ []
range_more a zero = search arith
range_more a (suc n) = search (arith, range_more (suc a) n)

pub map_range_more : {X : Type 0} (f : ℕ → X) (n : ℕ) → map f (range_with_len 0 (n + 1)) ≡ map f (range_with_len 0 n) ++ f n ∷ []
map_range_more f n = ap (map f) (range_more 0 n) ∙ (map-append f (range_with_len 0 n) ((0 + n) ∷ []) ∙ ap (λ k. map f (range_with_len 0 n) ++ f k ∷ []) (omega arith))
