-- Reading values one after another, as a loop does.
use Rattle.std.proofs.Common.{◌≡◌, ℕ, suc, ◌-◌, ◌+◌, ◌≤◌, ◌<◌, List, [], ◌∷◌, ◌++◌, Result, Ok, Err, refl, sym, ap, ◌∙◌, append_assoc, arith}
use Rattle.std.proofs.lemmas.List.{append-nil}
use Rattle.rl_base.specs.Results.{◌>>=◌}
use Rattle.rl_fields.specs.declared.fault.Fault.{Fault}
use Rattle.rl_fields.specs.declared.fault.ReadError.{ReadError}
use Rattle.rl_fields.specs.declared.fault.ReadError.TheVariants as errors
use Rattle.rl_fields.specs.Answers.{FailsAs}
use Rattle.rl_fields.specs.Fields.{series, several}

-- what was read before, and what is still read
abbrev pub with_prefix : {A : Type 0} → List A → Result (List A × List ℕ) Fault → Result (List A × List ℕ) Fault
with_prefix prefix read = read >>= λ x. Ok (prefix ++ x.0, x.1)

regroup : {A : Type 0} (prefix : List A) (x : A) (read : Result (List A × List ℕ) Fault) → with_prefix prefix (read >>= λ y. Ok (x ∷ y.0, y.1)) ≡ with_prefix (prefix ++ x ∷ []) read
regroup {A = A} prefix x (Ok y) = ap (λ (xs : List A). Ok (xs, y.1)) (simp append_assoc)
regroup prefix x (Err f) = refl

-- one more value of a series
pub series-more : {S A : Type 0} (read : S → List ℕ → Result (A × List ℕ) Fault) (next : A → S) (prefix : List A) (count i : ℕ) (told : S) (bytes : List ℕ) (x : A) (after : List ℕ) (total : Result (List A × List ℕ) Fault)
    → i < count → read told bytes ≡ Ok (x, after) → with_prefix prefix (series read next (count - i) told bytes) ≡ total → with_prefix (prefix ++ x ∷ []) (series read next (count - (i + 1)) (next x) after) ≡ total
unfolding series
series-more read next prefix count i told bytes x after total lt h so_far =
    let k : count - i ≡ suc (count - (i + 1)) = omega arith in
    let one : with_prefix prefix (series read next (count - i) told bytes) ≡ with_prefix (prefix ++ x ∷ []) (series read next (count - (i + 1)) (next x) after) = rw (k, h) (regroup prefix x (series read next (count - (i + 1)) (next x) after)) in
    sym one ∙ so_far

-- a value of a series that is not read
pub series-fails : {S A : Type 0} (read : S → List ℕ → Result (A × List ℕ) Fault) (next : A → S) (e : ReadError) (prefix : List A) (count i : ℕ) (told : S) (bytes : List ℕ) (total : Result (List A × List ℕ) Fault)
    → i < count → FailsAs e (read told bytes) → with_prefix prefix (series read next (count - i) told bytes) ≡ total → FailsAs e total
unfolding series
series-fails read next errors.Memory prefix count i told bytes total lt h so_far = tt
series-fails read next (errors.Fault f) prefix count i told bytes total lt h so_far =
    let k : count - i ≡ suc (count - (i + 1)) = omega arith in
    let one : with_prefix prefix (series read next (count - i) told bytes) ≡ Err f = rw (k, h) refl in
    sym so_far ∙ one

-- a series that is read
pub series-done : {S A : Type 0} (read : S → List ℕ → Result (A × List ℕ) Fault) (next : A → S) (prefix : List A) (count i : ℕ) (told : S) (bytes : List ℕ) (total : Result (List A × List ℕ) Fault)
    → count ≤ i → with_prefix prefix (series read next (count - i) told bytes) ≡ total → total ≡ Ok (prefix, bytes)
unfolding series
series-done {A = A} read next prefix count i told bytes total le so_far =
    let k : count - i ≡ 0 = omega arith in
    let one : with_prefix prefix (series read next (count - i) told bytes) ≡ Ok (prefix, bytes) = rw k (ap (λ (xs : List A). Ok (xs, bytes)) (append-nil prefix)) in
    sym so_far ∙ one

-- one more value of several
pub several-more : {A : Type 0} (read : List ℕ → Result (A × List ℕ) Fault) (prefix : List A) (count i : ℕ) (bytes : List ℕ) (x : A) (after : List ℕ) (total : Result (List A × List ℕ) Fault)
    → i < count → read bytes ≡ Ok (x, after) → with_prefix prefix (several read (count - i) bytes) ≡ total → with_prefix (prefix ++ x ∷ []) (several read (count - (i + 1)) after) ≡ total
unfolding several
several-more read prefix count i bytes x after total lt h so_far =
    let k : count - i ≡ suc (count - (i + 1)) = omega arith in
    let one : with_prefix prefix (several read (count - i) bytes) ≡ with_prefix (prefix ++ x ∷ []) (several read (count - (i + 1)) after) = rw (k, h) (regroup prefix x (several read (count - (i + 1)) after)) in
    sym one ∙ so_far

-- one of several values that is not read
pub several-fails : {A : Type 0} (read : List ℕ → Result (A × List ℕ) Fault) (e : ReadError) (prefix : List A) (count i : ℕ) (bytes : List ℕ) (total : Result (List A × List ℕ) Fault)
    → i < count → FailsAs e (read bytes) → with_prefix prefix (several read (count - i) bytes) ≡ total → FailsAs e total
unfolding several
several-fails read errors.Memory prefix count i bytes total lt h so_far = tt
several-fails read (errors.Fault f) prefix count i bytes total lt h so_far =
    let k : count - i ≡ suc (count - (i + 1)) = omega arith in
    let one : with_prefix prefix (several read (count - i) bytes) ≡ Err f = rw (k, h) refl in
    sym so_far ∙ one

-- several values that are read
pub several-done : {A : Type 0} (read : List ℕ → Result (A × List ℕ) Fault) (prefix : List A) (count i : ℕ) (bytes : List ℕ) (total : Result (List A × List ℕ) Fault)
    → count ≤ i → with_prefix prefix (several read (count - i) bytes) ≡ total → total ≡ Ok (prefix, bytes)
unfolding several
several-done {A = A} read prefix count i bytes total le so_far =
    let k : count - i ≡ 0 = omega arith in
    let one : with_prefix prefix (several read (count - i) bytes) ≡ Ok (prefix, bytes) = rw k (ap (λ (xs : List A). Ok (xs, bytes)) (append-nil prefix)) in
    sym so_far ∙ one
