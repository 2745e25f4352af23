-- Members of mapped lists and of beginnings, at their places.
use Rattle.std.proofs.Common.{◌≡◌, ℕ, zero, suc, ◌<◌, List, [], ◌∷◌, map, take, length, refl, sym, ap, subst, arith}
use Rattle.std.specs.Prelude.{Some, slice_get, slice_index_or}
use mathlib.Core.Option.{some, some-ne-none, some-injective}
use lib.ListN.{get_elem?}
use Rattle.rl_store.proofs.Loads.{Some≢None, Some-injective}
use Rattle.rl_store.proofs.Marks.{at_map}

pub of_map : {A B : Type 0} (f : A → B) (xs : List A) (k : ℕ) (y : B) → get_elem? (map f xs) k ≡ some y → (x : A) × (get_elem? xs k ≡ some x) × (f x ≡ y)
of_map f [] k y e = absurd (some-ne-none y (sym e))
of_map f (x ∷ xs) zero y e = (x, refl, some-injective _ _ e)
of_map f (x ∷ xs) (suc k) y e = of_map f xs k y e

pub of_take : {A : Type 0} (n : ℕ) (xs : List A) (k : ℕ) (x : A) → get_elem? (take n xs) k ≡ some x → get_elem? xs k ≡ some x
of_take zero xs k x e = absurd (some-ne-none x (sym e))
of_take (suc n) [] k x e = absurd (some-ne-none x (sym e))
of_take (suc n) (y ∷ xs) zero x e = e
of_take (suc n) (y ∷ xs) (suc k) x e = of_take n xs k x e

-- what a place tells of mapped lists that are the same
pub same_place : {A B C : Type 0} (f : A → C) (g : B → C) (xs : List A) (ys : List B) → map f xs ≡ map g ys → (k : ℕ) (x : A) → get_elem? xs k ≡ some x → (y : B) × (get_elem? ys k ≡ some y) × (g y ≡ f x)
same_place f g xs ys e k x at = of_map g ys k (f x) (subst (λ l. get_elem? l k ≡ some (f x)) e (at_map f xs k x at))

pub at_or : {A : Type 0} (xs : List A) (i : ℕ) (d : A) → i < length xs → get_elem? xs i ≡ some (slice_index_or xs i d)
at_or [] i d h = absurd (omega arith)
at_or (x ∷ xs) zero d h = refl
at_or (x ∷ xs) (suc i) d h = at_or xs i d (omega arith)

pub of_get : {A : Type 0} (xs : List A) (i : ℕ) (x : A) → slice_get xs i ≡ Some x → get_elem? xs i ≡ some x
of_get [] i x e = absurd (Some≢None x (sym e))
of_get (y ∷ xs) zero x e = ap some (Some-injective y x e)
of_get (y ∷ xs) (suc i) x e = of_get xs i x e
