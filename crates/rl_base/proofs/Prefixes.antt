-- Prefixes of lists.
use Rattle.std.proofs.Common.{◌≡◌, ℕ, zero, suc, ◌<◌, ◌≤◌, List, [], ◌∷◌, ◌++◌, length, get_or, refl, sym, ap, ◌∙◌, subst, arith, append_assoc, append-nil, length-append}
use Rattle.rl_base.specs.Lists.{IsPrefix}
use Rattle.rl_base.proofs.Members.{In, in_prefix}

pub prefix_self : {X : Type 0} (xs : List X) → IsPrefix xs xs
prefix_self xs = ([], append-nil xs)

pub prefix_more : {X : Type 0} (xs ys : List X) → IsPrefix xs (xs ++ ys)
prefix_more xs ys = (ys, refl)

pub prefix_trans : {X : Type 0} (xs ys zs : List X) → IsPrefix xs ys → IsPrefix ys zs → IsPrefix xs zs
prefix_trans xs ys zs a b = (a.0 ++ b.0, sym (append_assoc xs a.0 b.0) ∙ ap (λ z. z ++ b.0) a.1 ∙ b.1)

-- the next element too
pub prefix_next : {X : Type 0} (d : X) (xs ys : List X) → IsPrefix xs ys → length xs < length ys → IsPrefix (xs ++ get_or ys (length xs) d ∷ []) ys
prefix_next {X} d xs ys a h = go a.0 a.1
  where
    go : (rest : List X) → xs ++ rest ≡ ys → IsPrefix (xs ++ get_or ys (length xs) d ∷ []) ys
    go [] e = absurd (omega (arith, length-append xs [], ap length e))
    go (y ∷ rest) e = (rest, rw (← e, get_at xs y rest, append_assoc) refl)
      where
        get_at : (us : List X) (u : X) (vs : List X) → get_or (us ++ u ∷ vs) (length us) d ≡ u
        get_at [] u vs = refl
        get_at (z ∷ us) u vs = get_at us u vs

-- of two prefixes of one list the shorter one is a prefix of the other
pub prefix_both : {X : Type 0} (xs ys zs : List X) → IsPrefix xs zs → IsPrefix ys zs → length xs ≤ length ys → IsPrefix xs ys
prefix_both [] ys zs a b h = (ys, refl)
prefix_both (x ∷ xs) [] zs a b h = absurd (omega arith)
prefix_both (x ∷ xs) (y ∷ ys) [] a b h = absurd (omega (arith, ap length a.1))
prefix_both (x ∷ xs) (y ∷ ys) (z ∷ zs) a b h =
    let k = prefix_both xs ys zs (a.0, cc) (b.0, cc) (omega arith) in
    (k.0, cc (k.1, a.1, b.1))

pub prefix_length : {X : Type 0} (xs ys : List X) → IsPrefix xs ys → length xs ≤ length ys
prefix_length xs ys a = omega (arith, length-append xs a.0, ap length a.1)

-- the element behind a list
pub get_end : {X : Type 0} (d : X) (xs : List X) (y : X) → get_or (xs ++ y ∷ []) (length xs) d ≡ y
get_end d [] y = refl
get_end d (x ∷ xs) y = get_end d xs y

-- a prefix has the same elements
pub prefix_get : {X : Type 0} (d : X) (xs ys : List X) (i : ℕ) → IsPrefix xs ys → i < length xs → get_or ys i d ≡ get_or xs i d
prefix_get d [] ys i p h = absurd (omega arith)
prefix_get d (x ∷ xs) [] i p h = absurd (let q = p.1 in cc)
prefix_get d (x ∷ xs) (y ∷ ys) zero p h = let q = p.1 in cc
prefix_get d (x ∷ xs) (y ∷ ys) (suc i) p h = prefix_get d xs ys i (p.0, let q = p.1 in cc) (omega arith)

-- what is in a prefix is in the list
pub prefix_in : {X : Type 0} (x : X) (xs ys : List X) → IsPrefix xs ys → In x xs → In x ys
prefix_in x xs ys p i = subst (λ z. In x z) p.1 (in_prefix xs p.0 x i)
