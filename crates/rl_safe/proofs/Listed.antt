-- Members of lists, and what all members have.
use Rattle.std.proofs.Common.{◌≡◌, ℕ, zero, suc, ◌<◌, List, [], ◌∷◌, ◌++◌, length, get_or, All, Option, Some, None, refl, subst, arith, inl, inr}
use Rattle.std.specs.Option.{option_and_then}
use Rattle.std.specs.List.{flat_map}
use Rattle.rl_base.proofs.Members.{In, in_prefix, in_suffix}

pub all_from : {A : Type 0} (P : A → Type 0) (xs : List A) → ((x : A) → In x xs → P x) → All P xs
all_from P [] h k d l = absurd (omega (arith, l))
all_from P (x ∷ xs) h zero d l = h x (inl refl)
all_from P (x ∷ xs) h (suc k) d l = all_from P xs (λ y i. h y (inr i)) k d (omega (arith, l))

pub in_at : {A : Type 0} (xs : List A) (k : ℕ) (d : A) → k < length xs → In (get_or xs k d) xs
in_at [] k d l = absurd (omega (arith, l))
in_at (x ∷ xs) zero d l = inl refl
in_at (x ∷ xs) (suc k) d l = inr (in_at xs k d (omega (arith, l)))

pub in_flat : {A B : Type 0} (g : A → List B) (xs : List A) (x : A) (y : B) → In x xs → In y (g x) → In y (flat_map g xs)
in_flat g [] x y i j = absurd i
in_flat g (z ∷ zs) x y i j = elim i [
  | inl e ↦ in_prefix (g z) (flat_map g zs) y (subst (λ k. In y (g k)) e j)
  | inr k ↦ in_suffix (g z) (flat_map g zs) y (in_flat g zs x y k j)
]

-- an option that two steps give
pub both_some : {A B : Type 0} (f : A → Option B) (o : Option A) (y : B) → option_and_then f o ≡ Some y
    → (x : A) × (o ≡ Some x) × (f x ≡ Some y)
both_some f None y e = cc
both_some f (Some x) y e = (x, refl, e)

pub nothing_in : {A : Type 0} (xs ys : List A) → xs ++ ys ≡ [] → ys ≡ []
nothing_in [] ys e = e
nothing_in (x ∷ xs) ys e = cc
