-- The next pending message is the first number of a range of those that are kept.
use Rattle.std.proofs.Common.{◌≡◌, ℕ, ◌+◌, ◌-◌, ◌≤◌, true, false, List, [], ◌∷◌, slice_get, Option, None, Some, refl, sym, ap, subst, ◌∙◌, arith, IfSome, IfNone, Bor}
use Rattle.std.proofs.lemmas.Bool.Decides.{nat_tests}
use Rattle.std.proofs.lemmas.Map.Keys.{le_from_not_gt}
use Rattle.std.specs.Option.{option_copied, MatchOption}
use Rattle.std.specs.Ordering.{nat_cmp, is_gt}
use Rattle.std.specs.BTreeSet.{BTreeSet, contains, IsKeyRangeOf}
use Rattle.std.specs.declared.ops.Bound.TheVariants.{Included}
use Rattle.rl_base.proofs.Tests.{by_bool}
use Rattle.rl_net.specs.declared.message.Message.{Message}
use Rattle.rl_net.specs.Messages.{is_pending, NonePending}

-- the order of numbers as a set asks for it
in_order : (a b : ℕ) → a ≤ b → is_gt (nat_cmp a b) ≡ false
in_order a b low = grind (arith, nat_tests, low)

module _ (net : List Message) (s : BTreeSet ℕ) (listed : (q : ℕ) → contains nat_cmp s q ≡ is_pending net q)
    (after upto from to : ℕ) (r : List ℕ) (start : from ≡ after + 1) (end : to ≡ upto)
    (range : IsKeyRangeOf nat_cmp (Included from) (Included to) s r) where
  -- nothing is pending where the range is empty
  none_there : r ≡ [] → NonePending net after upto
  none_there empty q above within =
      sym (listed q) ∙ range.5 empty q (in_order from q (omega (arith, above, start)), in_order q to (omega (arith, within, end)))

  -- nothing is pending below its first number
  none_below : (k : ℕ) (t : List ℕ) → r ≡ k ∷ t → NonePending net after (k - 1)
  none_below k t first q above below =
      let head : slice_get r 0 ≡ Some k = ap (λ xs. slice_get xs 0) first in
      let there = subst (λ o. IfSome o (λ x. ((is_gt (nat_cmp from x) ≡ false) × (is_gt (nat_cmp x to) ≡ false)) × (contains nat_cmp s x ≡ true))) head range.1 in
      let within : k ≤ to = le_from_not_gt k to there.0.1 in
      let inside : (is_gt (nat_cmp from q) ≡ false) × (is_gt (nat_cmp q to) ≡ false) = (in_order from q (omega (arith, above, start)), in_order q to (omega (arith, above, below, within))) in
      by_bool (λ b. b ≡ false) (is_pending net q)
      (λ yes. let least : k ≤ q = le_from_not_gt k q (subst (λ o. IfSome o (λ x. is_gt (nat_cmp x q) ≡ false)) head (range.2 q inside (listed q ∙ yes))) in
      absurd (omega (arith, above, below, least)))
      (λ no. refl)

  -- what the first of the range says, and what its want says
  pub least_found : (o : Option (Bor ℕ)) (t : List ℕ) → MatchOption o ((r ≡ []) × (t ≡ [])) (λ x. r ≡ x.now ∷ t)
      → IfSome (option_copied o) (λ k. NonePending net after (k - 1))
  least_found None t took = tt
  least_found (Some x) t took = none_below x.now t took

  pub none_found : (o : Option (Bor ℕ)) (t : List ℕ) → MatchOption o ((r ≡ []) × (t ≡ [])) (λ x. r ≡ x.now ∷ t)
      → IfNone (option_copied o) (NonePending net after upto)
  none_found None t took = none_there took.0
  none_found (Some x) t took = tt
