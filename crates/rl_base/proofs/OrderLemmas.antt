-- The order of stamps.
use Rattle.std.proofs.Common.{◌≡◌, ◌≢◌, ◌<◌, ◌^◌, ℕ, true, false, ◌&&◌, ◌||◌, ◌==◌, nat_lt, sym, ap, ◌∙◌, arith, inl, inr}
use Rattle.std.proofs.lemmas.Bool.Decides.{nat_tests}
use Rattle.std.proofs.lemmas.Bool.{cases_Bool, cases_lt}
use Rattle.rl_base.specs.Order.{IsBelow, is_below}
use Rattle.rl_base.specs.Stamps.{packed}
use Rattle.rl_base.specs.declared.stamp.Stamp.{Stamp}

pub is_below_tells : (s t : Stamp) → is_below s t ≡ true → IsBelow s t
is_below_tells s t h = grind (arith, nat_tests)

pub is_below_from : (s t : Stamp) → IsBelow s t → is_below s t ≡ true
is_below_from s t h = grind (arith, nat_tests)

pub below_trans : (s t u : Stamp) → IsBelow s t → IsBelow t u → IsBelow s u
below_trans s t u p q = grind arith

pub not_below_self : (s : Stamp) → is_below s s ≡ false
not_below_self s = grind (arith, nat_tests)

pub below_one_way : (s t : Stamp) → is_below s t ≡ true → is_below t s ≡ false
below_one_way s t h = grind (arith, nat_tests)

-- what is not below one that is not below a third is not below the third
pub not_below_chain : (s t u : Stamp) → is_below t s ≡ false → is_below u t ≡ false → is_below u s ≡ false
not_below_chain s t u a b = grind (arith, nat_tests)

pub same_stamp : (s t : Stamp) → s.epoch ≡ t.epoch → s.seq ≡ t.seq → s ≡ t
same_stamp s t a b = let make : ℕ → ℕ → Stamp = λ e k. record { epoch = e; seq = k } in ap (λ e. make e s.seq) a ∙ ap (make t.epoch) b

-- of two different stamps one is below
pub below_other : (s t : Stamp) → is_below t s ≡ false → t ≢ s → is_below s t ≡ true
below_other s t h n = elim (cases_Bool (is_below s t)) [
  | inl b ↦ b
  | inr b ↦ absurd (n (sym (same_stamp s t (epochs s.epoch t.epoch s.seq t.seq b h) (seqs s.epoch t.epoch s.seq t.seq b h))))
]
  where
    epochs : (a b c d : ℕ) → (nat_lt a b || ((a == b) && nat_lt c d)) ≡ false → (nat_lt b a || ((b == a) && nat_lt d c)) ≡ false → a ≡ b
    epochs a b c d p q = grind (arith, nat_tests)

    seqs : (a b c d : ℕ) → (nat_lt a b || ((a == b) && nat_lt c d)) ≡ false → (nat_lt b a || ((b == a) && nat_lt d c)) ≡ false → c ≡ d
    seqs a b c d p q = grind (arith, nat_tests)

-- stamps and their numbers have one order
pub packed_below : (s t : Stamp) → s.seq < 2 ^ 40 → t.seq < 2 ^ 40 → IsBelow s t → packed s < packed t
packed_below s t small_s small_t (inl h) = omega arith
packed_below s t small_s small_t (inr h) = omega (arith, h.0, h.1)

pub below_packed : (s t : Stamp) → s.seq < 2 ^ 40 → t.seq < 2 ^ 40 → packed s < packed t → IsBelow s t
below_packed s t small_s small_t h = elim (cases_lt s.epoch t.epoch) [
  | inl less ↦ inl less
  | inr rest ↦ inr (omega arith, omega arith)
]
