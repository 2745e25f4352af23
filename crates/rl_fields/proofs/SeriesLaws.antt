-- The same of several values, one after another.
use Rattle.std.proofs.Common.{◌≡◌, ℕ, zero, suc, List, [], ◌∷◌, ◌++◌, length, Result, Ok, refl, ap, subst, ◌∙◌, append_assoc}
use Rattle.std.specs.List.{flat_map, AllByRecursion}
use Rattle.std.proofs.lemmas.List.Concat.{flat_map-cons}
use Rattle.rl_base.specs.Numbers.{IsBytes}
use Rattle.rl_base.specs.Results.{◌>>=◌}
use Rattle.rl_fields.specs.declared.fault.Fault.{Fault}
use Rattle.rl_fields.specs.Fields.{series, several}
use Rattle.rl_fields.proofs.FieldLaws.{bind_ok, ok_is, Takes, Takes-then}

-- each value is one that may come after what the one before it told
abbrev pub Chain : {S A : Type 0} → (S → A → Type 0) → (A → S) → S → List A → Type 0
Chain May next told [] = Unit {0}
Chain May next told (x ∷ xs) = May told x × Chain May next (next x) xs

-- a reader of one value: what it takes is encoded so, and may come; what is encoded so and may come is read again
pub record IsReader {S A : Type 0} (read : S → List ℕ → Result (A × List ℕ) Fault) (encoding : A → List ℕ) (May : S → A → Type 0) (Fits : A → Type 0) : Type 0 where
  pub takes : (told : S) (bytes : List ℕ) (x : A × List ℕ) → IsBytes bytes → read told bytes ≡ Ok x → Takes bytes (encoding x.0) x.1 × May told x.0
  pub again : (told : S) (x : A) (rest : List ℕ) → May told x → Fits x → read told (encoding x ++ rest) ≡ Ok (x, rest)

pub series_takes : {S A : Type 0} (read : S → List ℕ → Result (A × List ℕ) Fault) (encoding : A → List ℕ) (May : S → A → Type 0) (Fits : A → Type 0) (next : A → S) → IsReader read encoding May Fits
    → (n : ℕ) (told : S) (bytes : List ℕ) (x : List A × List ℕ) → IsBytes bytes → series read next n told bytes ≡ Ok x → Takes bytes (flat_map encoding x.0) x.1 × (length x.0 ≡ n) × Chain May next told x.0
unfolding series
series_takes {A = A} read encoding May Fits next reader zero told bytes x fits e =
    subst (λ (y : List A × List ℕ). Takes bytes (flat_map encoding y.0) y.1 × (length y.0 ≡ 0) × Chain May next told y.0) (ok_is {E = Fault} ([], bytes) x e) (record { parts = refl; rest_fits = fits }, refl, tt)
series_takes {A = A} read encoding May Fits next reader (suc n) told bytes x fits e =
    let a = bind_ok (read told bytes) (λ first. series read next n (next first.0) first.1 >>= λ others. Ok (first.0 ∷ others.0, others.1)) x e in
    let b = bind_ok (series read next n (next a.0.0) a.0.1) (λ others. Ok (a.0.0 ∷ others.0, others.1)) x a.2 in
    let first = reader.takes told bytes a.0 fits a.1 in
    let others = series_takes read encoding May Fits next reader n (next a.0.0) a.0.1 b.0 first.0.rest_fits b.1 in
    let whole = Takes-then bytes (encoding a.0.0) a.0.1 (flat_map encoding b.0.0) b.0.1 first.0 others.0 in
    let made : List A × List ℕ = (a.0.0 ∷ b.0.0, b.0.1) in
    subst (λ (y : List A × List ℕ). Takes bytes (flat_map encoding y.0) y.1 × (length y.0 ≡ suc n) × Chain May next told y.0) (ok_is {E = Fault} made x b.2) (rw flat_map-cons whole, ap suc others.1, (first.1, others.2))

pub series_again : {S A : Type 0} (read : S → List ℕ → Result (A × List ℕ) Fault) (encoding : A → List ℕ) (May : S → A → Type 0) (Fits : A → Type 0) (next : A → S) → IsReader read encoding May Fits
    → (xs : List A) (told : S) (rest : List ℕ) → Chain May next told xs → AllByRecursion Fits xs → series read next (length xs) told (flat_map encoding xs ++ rest) ≡ Ok (xs, rest)
unfolding series
series_again read encoding May Fits next reader [] told rest chain fits = refl
series_again read encoding May Fits next reader (x ∷ xs) told rest chain fits =
    let regrouped : flat_map encoding (x ∷ xs) ++ rest ≡ encoding x ++ (flat_map encoding xs ++ rest) = ap (λ (t : List ℕ). t ++ rest) (flat_map-cons encoding x xs) ∙ append_assoc (encoding x) (flat_map encoding xs) rest in
    ap (series read next (suc (length xs)) told) regrouped ∙ rw (reader.again told x (flat_map encoding xs ++ rest) chain.0 fits.0, series_again read encoding May Fits next reader xs (next x) rest chain.1 fits.1) refl

pub several_takes : {A : Type 0} (read : List ℕ → Result (A × List ℕ) Fault) (encoding : A → List ℕ) (May : A → Type 0)
    → ((bytes : List ℕ) (x : A × List ℕ) → IsBytes bytes → read bytes ≡ Ok x → Takes bytes (encoding x.0) x.1 × May x.0)
    → (n : ℕ) (bytes : List ℕ) (x : List A × List ℕ) → IsBytes bytes → several read n bytes ≡ Ok x → Takes bytes (flat_map encoding x.0) x.1 × (length x.0 ≡ n) × AllByRecursion May x.0
unfolding several
several_takes {A = A} read encoding May takes zero bytes x fits e =
    subst (λ (y : List A × List ℕ). Takes bytes (flat_map encoding y.0) y.1 × (length y.0 ≡ 0) × AllByRecursion May y.0) (ok_is {E = Fault} ([], bytes) x e) (record { parts = refl; rest_fits = fits }, refl, tt)
several_takes {A = A} read encoding May takes (suc n) bytes x fits e =
    let a = bind_ok (read bytes) (λ first. several read n first.1 >>= λ others. Ok (first.0 ∷ others.0, others.1)) x e in
    let b = bind_ok (several read n a.0.1) (λ others. Ok (a.0.0 ∷ others.0, others.1)) x a.2 in
    let first = takes bytes a.0 fits a.1 in
    let others = several_takes read encoding May takes n a.0.1 b.0 first.0.rest_fits b.1 in
    let whole = Takes-then bytes (encoding a.0.0) a.0.1 (flat_map encoding b.0.0) b.0.1 first.0 others.0 in
    let made : List A × List ℕ = (a.0.0 ∷ b.0.0, b.0.1) in
    subst (λ (y : List A × List ℕ). Takes bytes (flat_map encoding y.0) y.1 × (length y.0 ≡ suc n) × AllByRecursion May y.0) (ok_is {E = Fault} made x b.2) (rw flat_map-cons whole, ap suc others.1, (first.1, others.2))

pub several_again : {A : Type 0} (read : List ℕ → Result (A × List ℕ) Fault) (encoding : A → List ℕ) (May : A → Type 0)
    → ((x : A) (rest : List ℕ) → May x → read (encoding x ++ rest) ≡ Ok (x, rest))
    → (xs : List A) (rest : List ℕ) → AllByRecursion May xs → several read (length xs) (flat_map encoding xs ++ rest) ≡ Ok (xs, rest)
unfolding several
several_again read encoding May again [] rest fits = refl
several_again read encoding May again (x ∷ xs) rest fits =
    let regrouped : flat_map encoding (x ∷ xs) ++ rest ≡ encoding x ++ (flat_map encoding xs ++ rest) = ap (λ (t : List ℕ). t ++ rest) (flat_map-cons encoding x xs) ∙ append_assoc (encoding x) (flat_map encoding xs) rest in
    ap (several read (suc (length xs))) regrouped ∙ rw (again x (flat_map encoding xs ++ rest) fits.0, several_again read encoding May again xs rest fits.1) refl
