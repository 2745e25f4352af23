-- A read goes before the first of a later record.
use Rattle.std.proofs.Common.{◌≡◌, ℕ, suc, ◌+◌, ◌≤◌, List, [], ◌∷◌, length, nat_lt, Bool, true, false, not, Some, None, if◌then◌else◌, refl, ap, ◌∙◌, arith, cond, position}
use Rattle.std.proofs.lemmas.Bool.Decides.{nat_tests}
use Rattle.std.specs.List.{insert, position_or_len}
use Rattle.std.specs.Option.{unwrap_or}
use Rattle.std.proofs.lemmas.List.Sums.{prefix_len-le-length}
use Rattle.rl_worker.specs.Phases.{Read, with_read}

at_most : (n l : ℕ) (b : Bool) → nat_lt n l ≡ b → n ≤ l → unwrap_or (if b then Some n else None) l ≡ n
at_most n l true e h = refl
at_most n l false e h = grind (arith, nat_tests)

place_is : {X : Type 0} (p : X → Bool) (xs : List X) → unwrap_or (position p xs) (length xs) ≡ position_or_len p xs
place_is p xs = at_most (position_or_len p xs) (length xs) (nat_lt (position_or_len p xs) (length xs)) refl (prefix_len-le-length (λ x. not (p x)) xs)

next : (x y : Read) (ys : List Read) (n : ℕ) (b : Bool) → insert ys n x ≡ with_read x ys → insert (y ∷ ys) (cond (not b) (1 + n) 0) x ≡ (if b then x ∷ y ∷ ys else y ∷ with_read x ys)
next x y ys n true e = refl
next x y ys n false e = let m : 1 + n ≡ suc n = omega arith in rw m (ap (λ zs. y ∷ zs) e)

inserted : (x : Read) (ys : List Read) → insert ys (position_or_len (λ y. nat_lt x.rec y.rec) ys) x ≡ with_read x ys
inserted x [] = refl
inserted x (y ∷ ys) = next x y ys (position_or_len (λ z. nat_lt x.rec z.rec) ys) (nat_lt x.rec y.rec) (inserted x ys)

pub read_inserted : (x : Read) (ys : List Read) (at : ℕ) → at ≡ unwrap_or (position (λ y. nat_lt x.rec y.rec) ys) (length ys) → insert ys at x ≡ with_read x ys
read_inserted x ys at e = ap (λ n. insert ys n x) (e ∙ place_is (λ y. nat_lt x.rec y.rec) ys) ∙ inserted x ys
