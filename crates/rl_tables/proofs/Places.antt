-- Record numbers and places are each other's inverse.
use Rattle.std.proofs.Common.{◌≡◌, ℕ, zero, suc, ◌+◌, ◌-◌, ◌<◌, ◌≤◌, List, [], ◌∷◌, length, sum, take, slice_index, nat_lt, Bool, true, false, if◌then◌else◌, refl, sym, ap, ◌∙◌, arith}
use Rattle.std.proofs.lemmas.Bool.Decides.{nat_tests}
use Rattle.std.proofs.lemmas.List.Sums.{sum_by-cons}
use Rattle.rl_base.proofs.Tests.{lt_true, lt_false, true_lt}
use Rattle.rl_tables.specs.Numbers.{record_of, place_from, place_of, IsPlace}

false_lt : (a b : ℕ) → nat_lt a b ≡ false → b ≤ a
false_lt a b h = grind (arith, nat_tests)

-- the place of a key's record number
placed : (t0 : ℕ) (sizes : List ℕ) (t k : ℕ) → t < length sizes → k < slice_index sizes t → place_from t0 sizes (record_of sizes t k) ≡ (t0 + t, k)
placed t0 [] t k h l = absurd (omega arith)
placed t0 (x ∷ xs) zero k h l =
    let n : sum (take 0 (x ∷ xs)) + k ≡ k = omega arith in
    let less : k < x = l in
    rw (n, lt_true k x less) (ap (λ z. (z, k)) (omega arith))
placed t0 (x ∷ xs) (suc t) k h l =
    let front : sum (take (suc t) (x ∷ xs)) ≡ x + sum (take t xs) = sum_by-cons (λ z. z) x (take t xs) in
    let n : sum (take (suc t) (x ∷ xs)) + k ≡ x + (sum (take t xs) + k) = omega arith in
    let past : nat_lt (x + (sum (take t xs) + k)) x ≡ false = lt_false (x + (sum (take t xs) + k)) x (omega arith) in
    let rest : x + (sum (take t xs) + k) - x ≡ sum (take t xs) + k = omega arith in
    rw (n, past, rest) (placed (t0 + 1) xs t k (omega arith) l ∙ ap (λ z. (z, k)) (omega arith))

pub place_of_record : (sizes : List ℕ) (t k : ℕ) → t < length sizes → k < slice_index sizes t → place_of sizes (record_of sizes t k) ≡ (t, k)
place_of_record sizes t k h l = placed 0 sizes t k h l ∙ ap (λ z. (z, k)) (omega arith)

place_from_up : (t0 : ℕ) (sizes : List ℕ) (r : ℕ) → t0 ≤ (place_from t0 sizes r).0
place_from_up t0 [] r = omega arith
place_from_up t0 (x ∷ xs) r = go (nat_lt r x) (place_from_up (t0 + 1) xs (r - x))
  where
    go : (b : Bool) → t0 + 1 ≤ (place_from (t0 + 1) xs (r - x)).0 → t0 ≤ (if b then (t0, r) else place_from (t0 + 1) xs (r - x)).0
    go true u = omega arith
    go false u = omega arith

-- the record number of a record's place
recorded : (t0 : ℕ) (sizes : List ℕ) (t r : ℕ) → t < length sizes → (place_from t0 sizes r).0 ≡ t0 + t → record_of sizes t (place_from t0 sizes r).1 ≡ r
recorded t0 [] t r h e = absurd (omega arith)
recorded t0 (x ∷ xs) zero r h e = go (nat_lt r x) e (place_from_up (t0 + 1) xs (r - x))
  where
    go : (b : Bool) → (if b then (t0, r) else place_from (t0 + 1) xs (r - x)).0 ≡ t0 + 0 → t0 + 1 ≤ (place_from (t0 + 1) xs (r - x)).0 → sum (take 0 (x ∷ xs)) + (if b then (t0, r) else place_from (t0 + 1) xs (r - x)).1 ≡ r
    go true e u = omega arith
    go false e u = absurd (omega arith)
recorded t0 (x ∷ xs) (suc t) r h e = go (nat_lt r x) refl e (λ f. recorded (t0 + 1) xs t (r - x) (omega arith) f)
  where
    go : (b : Bool) → nat_lt r x ≡ b → (if b then (t0, r) else place_from (t0 + 1) xs (r - x)).0 ≡ t0 + suc t
        → ((place_from (t0 + 1) xs (r - x)).0 ≡ t0 + 1 + t → sum (take t xs) + (place_from (t0 + 1) xs (r - x)).1 ≡ r - x)
        → sum (take (suc t) (x ∷ xs)) + (if b then (t0, r) else place_from (t0 + 1) xs (r - x)).1 ≡ r
    go true c e f = absurd (omega arith)
    go false c e f =
        let front : sum (take (suc t) (x ∷ xs)) ≡ x + sum (take t xs) = sum_by-cons (λ z. z) x (take t xs) in
        let past : x ≤ r = false_lt r x c in
        let rest = f (omega arith) in
        omega arith

pub record_of_place : (sizes : List ℕ) (r t k : ℕ) → t < length sizes → place_of sizes r ≡ (t, k) → record_of sizes t k ≡ r
record_of_place sizes r t k h e =
    let key : (place_of sizes r).1 ≡ k = ap (λ p. p.1) e in
    ap (record_of sizes t) (sym key) ∙ recorded 0 sizes t r h (ap (λ p. p.0) e ∙ omega arith)

past_all : (t0 : ℕ) (sizes : List ℕ) (r : ℕ) → sum sizes ≤ r → (place_from t0 sizes r).0 ≡ t0 + length sizes
past_all t0 [] r h = omega arith
past_all t0 (x ∷ xs) r h =
    let all : sum (x ∷ xs) ≡ x + sum xs = sum_by-cons (λ z. z) x xs in
    let past : nat_lt r x ≡ false = lt_false r x (omega arith) in
    rw past (past_all (t0 + 1) xs (r - x) (omega arith) ∙ omega arith)

pub place_past_all : (sizes : List ℕ) (r : ℕ) → sum sizes ≤ r → (place_of sizes r).0 ≡ length sizes
place_past_all sizes r h = past_all 0 sizes r h ∙ omega arith

-- a key of one of these tables, of which the first has number t0
record Within (t0 : ℕ) (sizes : List ℕ) (place : ℕ × ℕ) : Type 0 where
  pub table : ℕ
  pub is : place.0 ≡ t0 + table
  pub there : table < length sizes
  pub key : place.1 < slice_index sizes table

within : (t0 : ℕ) (sizes : List ℕ) (r : ℕ) → r < sum sizes → Within t0 sizes (place_from t0 sizes r)
within t0 [] r h = absurd (omega arith)
within t0 (x ∷ xs) r h = go (nat_lt r x) refl (λ l. within (t0 + 1) xs (r - x) l)
  where
    go : (b : Bool) → nat_lt r x ≡ b → (r - x < sum xs → Within (t0 + 1) xs (place_from (t0 + 1) xs (r - x)))
        → Within t0 (x ∷ xs) (if b then (t0, r) else place_from (t0 + 1) xs (r - x))
    go true c f = record { table = 0; is = omega arith; there = omega arith; key = true_lt r x c }
    go false c f =
        let all : sum (x ∷ xs) ≡ x + sum xs = sum_by-cons (λ z. z) x xs in
        let past : x ≤ r = false_lt r x c in
        let rest = f (omega arith) in
        record { table = suc rest.table; is = omega (arith, rest.is); there = omega (arith, rest.there); key = rest.key }

-- a record is that of a key that is there
pub place_there : (sizes : List ℕ) (r : ℕ) → r < sum sizes → IsPlace sizes r (place_of sizes r).0 (place_of sizes r).1
place_there sizes r h =
    let found = within 0 sizes r h in
    let table : (place_of sizes r).0 ≡ found.table = omega (arith, found.is) in
    let there : (place_of sizes r).0 < length sizes = omega (arith, found.there, table) in
    record {
      table = there;
      key = rw table found.key;
      number = record_of_place sizes r (place_of sizes r).0 (place_of sizes r).1 there refl;
    }
