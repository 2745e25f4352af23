-- Keys and the numbers of their records.
use Rattle.std.proofs.Common.{◌≡◌, ◌≢◌, ◌⊎◌, ℕ, zero, suc, ◌+◌, ◌<◌, ◌≤◌, List, [], ◌∷◌, length, get_or, sum, take, refl, sym, ap, ◌∙◌, subst, inl, inr, arith, Option}
use Rattle.std.specs.Prelude.{Some, None}
use Rattle.std.proofs.Common.{cond, true, false, Bool}
use Rattle.std.specs.FinMap as finite
use Rattle.std.specs.FinMap.{get, insert, get-insert}
use Rattle.std.proofs.lemmas.Bool.{cases_Bool}
use Rattle.std.proofs.lemmas.List.Sums.{sum_by-cons}
use mathlib.Core.Logic.{dite}
use native.Mathlib.Decide.{ℕ_discrete}
use Rattle.rl_tables.specs.Numbers.{record_of}
use Rattle.rl_tables.proofs.Sizes.{sum_before}
use Rattle.rl_txn.specs.declared.write.Write.{Write}
use Rattle.rl_value.proofs.PlacesLemmas.{places_total}
use Rattle.rl_value.specs.Rows.{Rows, place_cmp}
use Rattle.rl_replay.proofs.Places.{at_is, at_self, at_same}
use Rattle.rl_replay.specs.Replay.{is_at}
use Rattle.rl_shared_replay.specs.Ends.{IsKey, put_present}
use Rattle.rl_shared_replay.specs.Layout.{RowOf}

sum_cons : (x : ℕ) (xs : List ℕ) → sum (x ∷ xs) ≡ x + sum xs
sum_cons x xs = sum_by-cons (λ n. n) x xs

less_or : (a b : ℕ) → (a < b) ⊎ (b ≤ a)
less_or a zero = inr (omega arith)
less_or zero (suc b) = inl (omega arith)
less_or (suc a) (suc b) = elim (less_or a b) [ inl l ↦ inl (omega arith) | inr l ↦ inr (omega arith) ]

-- the records of a table come before those of a later one
before_later : (sizes : List ℕ) (t u k : ℕ) → t < u → u < length sizes → k < get_or sizes t 0 → sum (take t sizes) + k < sum (take u sizes)
before_later [] t u k l m n = absurd (omega arith)
before_later (x ∷ xs) zero zero k l m n = absurd (omega arith)
before_later (x ∷ xs) (suc t) zero k l m n = absurd (omega arith)
before_later (x ∷ xs) zero (suc u) k l m n = let a = sum_cons x (take u xs) in omega arith
before_later (x ∷ xs) (suc t) (suc u) k l m n =
    let a = sum_cons x (take t xs) in let b = sum_cons x (take u xs) in let i = before_later xs t u k (omega arith) (omega arith) n in omega arith

pub record_below : (sizes : List ℕ) (q : ℕ × ℕ) → IsKey sizes q → record_of sizes q.0 q.1 < sum sizes
record_below sizes q i = let a = sum_before sizes q.0 i.table in let b = i.key in omega arith

pair_is : (t u k l : ℕ) → t ≡ u → k ≡ l → ◌≡◌ {A = ℕ × ℕ} (t, k) (u, l)
pair_is t u k l e f = cc

-- two keys of one record are one
pub one_key : (sizes : List ℕ) (q p : ℕ × ℕ) → IsKey sizes q → IsKey sizes p → record_of sizes q.0 q.1 ≡ record_of sizes p.0 p.1 → q ≡ p
one_key sizes q p i j e = dite (ℕ_discrete q.0 p.0)
    (λ same. pair_is q.0 p.0 q.1 p.1 same (let z = ap (λ t. sum (take t sizes)) same in omega arith))
    (λ ne. absurd (less ne (less_or q.0 p.0)))
  where
    less : q.0 ≢ p.0 → (q.0 < p.0) ⊎ (p.0 ≤ q.0) → ⊥
    less ne s = elim s [
      | inl l ↦ (let a = before_later sizes q.0 p.0 q.1 l j.table i.key in omega arith)
      | inr l ↦ (let m : p.0 < q.0 = omega (arith, ne) in let a = before_later sizes p.0 q.0 p.1 m i.table j.key in omega arith)
    ]

-- a place is a key or not
pub is_key : (sizes : List ℕ) (q : ℕ × ℕ) → IsKey sizes q ⊎ (IsKey sizes q → ⊥)
is_key sizes q = go (less_or q.0 (length sizes)) (less_or q.1 (get_or sizes q.0 0))
  where
    go : (q.0 < length sizes) ⊎ (length sizes ≤ q.0) → (q.1 < get_or sizes q.0 0) ⊎ (get_or sizes q.0 0 ≤ q.1) → IsKey sizes q ⊎ (IsKey sizes q → ⊥)
    go a b = elim a [
      | inl l ↦ elim b [
        | inl m ↦ inl (record { table = l; key = m })
        | inr m ↦ inr (λ i. let k = i.key in omega arith)
      ]
      | inr l ↦ inr (λ i. let k = i.table in omega arith)
    ]

-- a row that is put stands at its place
pub put_here : (m : Rows) (p : ℕ × ℕ) (row : RowOf) → get m p ≡ None → get (put_present m p row) p ≡ row
put_here m p None none = none
put_here m p (Some row) none =
    get-insert places_total m p row p ∙ ap (λ b. cond b (Some row) (get m p)) (at_is p (write_at p) ∙ at_self (write_at p))
  where
    write_at : ℕ × ℕ → Write
    write_at p = record { table = p.0; key = p.1; row = None }

-- and no other place changes
pub put_there : (m : Rows) (p q : ℕ × ℕ) (row : RowOf) → q ≢ p → get (put_present m p row) q ≡ get m q
put_there m p q None ne = refl
put_there m p q (Some row) ne = get-insert places_total m p row q ∙ ap (λ b. cond b (Some row) (get m q)) (at_is q w ∙ other (cases_Bool (is_at q w)))
  where
    w : Write
    w = record { table = p.0; key = p.1; row = None }

    other : (is_at q w ≡ true) ⊎ (is_at q w ≡ false) → is_at q w ≡ false
    other c = elim c [
      | inl t ↦ absurd (ne (at_same q w t))
      | inr f ↦ f
    ]
