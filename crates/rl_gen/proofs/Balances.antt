-- What the accounts have.
use Rattle.std.proofs.Common.{◌≡◌, ℕ, zero, suc, ◌+◌, ◌<◌, ◌≤◌, cond, List, [], ◌∷◌, map, Option, Some, None, refl, ap, sym, ◌∙◌, arith}
use Rattle.std.specs.FinMap as finite
use Rattle.std.specs.List.{range_with_len}
use Rattle.std.specs.Ordering.{is_eq}
use Rattle.std.specs.declared.cmp.Ordering.{Ordering}
use Rattle.std.specs.declared.cmp.Ordering.TheVariants.{Less, Equal, Greater}
use Rattle.std.proofs.lemmas.List.FromFn.{map-range_with_len_more}
use Rattle.rl_value.specs.Rows.{place_cmp}
use Rattle.rl_value.proofs.PlacesLemmas.{places_total, same_place}
use Rattle.rl_gen.specs.Generated.{balances}

abbrev entry : ℕ → (ℕ × ℕ) × List ℕ
entry account = ((0, account), 1000 ∷ [])

-- a place is that of one of some accounts, and has this row
pub record IsBalance (first count : ℕ) (place : ℕ × ℕ) (row : List ℕ) : Type 0 where
  pub table : place.0 ≡ 0
  pub above : first ≤ place.1
  pub below : place.1 < first + count
  pub is : row ≡ 1000 ∷ []

found : (a n : ℕ) (q : ℕ × ℕ) (row : List ℕ) → finite.find place_cmp q (map entry (range_with_len a n)) ≡ Some row → IsBalance a n q row
found a zero q row is = absurd (cc)
found a (suc n) q row is = go (found (a + 1) n q row) (place_cmp q (0, a)) refl is
  where
    go : (finite.find place_cmp q (map entry (range_with_len (a + 1) n)) ≡ Some row → IsBalance (a + 1) n q row) → (o : Ordering) → place_cmp q (0, a) ≡ o → cond (is_eq o) (Some (1000 ∷ [])) (finite.find place_cmp q (map entry (range_with_len (a + 1) n))) ≡ Some row → IsBalance a (suc n) q row
    go others Less at is = let rest = others is in record { table = rest.table; above = omega (arith, rest.above); below = omega (arith, rest.below); is = rest.is }
    go others Equal at is =
        let same : q ≡ (0, a) = same_place q (0, a) at in
        let account : q.1 ≡ a = ap (λ (p : ℕ × ℕ). p.1) same in
        record { table = ap (λ (p : ℕ × ℕ). p.0) same; above = omega arith; below = omega arith; is = cc }
    go others Greater at is = let rest = others is in record { table = rest.table; above = omega (arith, rest.above); below = omega (arith, rest.below); is = rest.is }

pub balance : (n : ℕ) (q : ℕ × ℕ) (row : List ℕ) → finite.get (balances n) q ≡ Some row → IsBalance 0 n q row
unfolding balances
balance n q row is = found 0 n q row (sym (finite.get-from_entries places_total (map entry (range_with_len 0 n)) q) ∙ is)

-- one more account
pub one_more_account : (n : ℕ) → finite.insert (balances n) (0, n) (1000 ∷ []) ≡ balances (n + 1)
unfolding balances
one_more_account n =
    sym (ap finite.from_entries (map-range_with_len_more entry 0 n n (omega arith))
    ∙ finite.from_entries_push places_total same_place (map entry (range_with_len 0 n)) (0, n) (1000 ∷ []) (none (finite.find place_cmp (0, n) (map entry (range_with_len 0 n))) refl))
  where
    none : (o : Option (List ℕ)) → finite.find place_cmp (0, n) (map entry (range_with_len 0 n)) ≡ o → o ≡ None
    none None is = refl
    none (Some row) is = absurd (let there = found 0 n (0, n) row is in omega (arith, there.below))
