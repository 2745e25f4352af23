-- Whether an attempt is decided, as a test.
use Rattle.std.proofs.Common.{◌≡◌, ℕ, zero, suc, true, false, true≢false, List, [], ◌∷◌, refl, sym, ap, subst, eq-eqb, ne_eqb}
use Rattle.std.specs.Prelude.{Bool, not, ◌&&◌, ◌||◌, ◌==◌}
use mathlib.Core.Logic.{dite}
use mathlib.Core.Option.{some, some-ne-none, some-injective}
use native.Mathlib.Decide.{ℕ_discrete}
use lib.ListN.{get_elem?}
use Rattle.rl_store.specs.declared.view.Read.{Read}
use Rattle.rl_store.specs.declared.view.Attempt.{Attempt}
use Rattle.rl_store.specs.Entries.{In, of_attempt, Decided}
use Rattle.rl_store.specs.Views.{is_in, all_validated, is_decided}

both : (p q : Bool) → (p && q) ≡ true → (p ≡ true) × (q ≡ true)
both true q e = (refl, e)
both false q e = absurd (true≢false (sym e))

pair : (p q : Bool) → p ≡ true → q ≡ true → (p && q) ≡ true
pair true q p e = e
pair false q p e = absurd (true≢false (sym p))

or_left : (p q : Bool) → p ≡ true → (p || q) ≡ true
or_left true q e = refl
or_left false q e = absurd (true≢false (sym e))

or_right : (p q : Bool) → q ≡ true → (p || q) ≡ true
or_right true q e = refl
or_right false q e = e

stands : (n : ℕ) (xs : List ℕ) → is_in n xs ≡ true → In n xs
stands n [] e = absurd (true≢false (sym e))
stands n (x ∷ xs) e = dite (ℕ_discrete x n)
    (λ same. (0, ap some same))
    (λ ne. let i = stands n xs (subst (λ c. (c || is_in n xs) ≡ true) (ne_eqb x n ne) e) in (suc i.0, i.1))

pub found : (n : ℕ) (xs : List ℕ) → In n xs → is_in n xs ≡ true
found n [] i = absurd (some-ne-none n (sym i.1))
found n (x ∷ xs) i = go i.0 i.1 (λ k p. found n xs (k, p))
  where
    go : (k : ℕ) → get_elem? (x ∷ xs) k ≡ some n → ((k : ℕ) → get_elem? xs k ≡ some n → is_in n xs ≡ true) → is_in n (x ∷ xs) ≡ true
    go zero p again = or_left (x == n) (is_in n xs) (eq-eqb x n (some-injective x n p))
    go (suc k) p again = or_right (x == n) (is_in n xs) (again k p)

each : (reads : List Read) (validated : List ℕ) → all_validated reads validated ≡ true → (x : Read) → In x reads → In x.rec validated
each [] validated e x i = absurd (some-ne-none x (sym i.1))
each (y ∷ reads) validated e x i = let p = both (is_in y.rec validated) (all_validated reads validated) e in go p i.0 i.1 (λ k q. each reads validated p.1 x (k, q))
  where
    go : (is_in y.rec validated ≡ true) × (all_validated reads validated ≡ true) → (k : ℕ) → get_elem? (y ∷ reads) k ≡ some x → ((k : ℕ) → get_elem? reads k ≡ some x → In x.rec validated) → In x.rec validated
    go p zero q again = subst (λ (z : Read). In z.rec validated) (some-injective y x q) (stands y.rec validated p.0)
    go p (suc k) q again = again k q

pub all : (reads : List Read) (validated : List ℕ) → ((x : Read) → In x reads → In x.rec validated) → all_validated reads validated ≡ true
all [] validated f = refl
all (y ∷ reads) validated f = pair (is_in y.rec validated) (all_validated reads validated) (found y.rec validated (f y (0, refl))) (all reads validated (λ x i. f x (suc i.0, i.1)))

not_true : (g : Bool) → not g ≡ true → g ≡ false
not_true true e = absurd (true≢false (sym e))
not_true false e = refl

pub decided_of : (a : Attempt) (t : ℕ) → is_decided a ≡ true → Decided (of_attempt a t)
decided_of a t e = let p = both (not a.given_up) (all_validated a.reads a.validated) e in (p.0, each a.reads a.validated p.1)

pub of_decided : (a : Attempt) (t : ℕ) → Decided (of_attempt a t) → is_decided a ≡ true
of_decided a t d = pair (not a.given_up) (all_validated a.reads a.validated) d.0 (all a.reads a.validated d.1)
