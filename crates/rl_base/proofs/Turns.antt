-- The next turn of a node.
use Rattle.std.proofs.Common.{◌≡◌, ℕ, ◌+◌, ◌-◌, ◌*◌, ◌/◌, ◌%◌, ◌<◌, ◌≤◌, inl, inr, arith, ap, ◌∙◌}
use Rattle.std.proofs.lemmas.Nat.{mod-mul-add, div-add-mod'}
use Rattle.std.proofs.lemmas.Bool.{cases_lt}
use Rattle.std.proofs.Math.Nat.{mul-le-mul_right, add-mod_right, mod-eq_of_lt, mod-lt}
use Rattle.rl_base.specs.Epochs.{next_epoch_of, IsNextEpoch}

-- the first number from `from` on that has a given remainder is less than one round away
least_of_remainder : (from n turn k e : ℕ) → k * n + turn < from + n → from ≤ e → e % n ≡ turn → k * n + turn ≤ e
least_of_remainder from n turn k e near above same =
    let parts : e / n * n + e % n ≡ e = div-add-mod' e n in
    elim (cases_lt (e / n) k) [
      | inl below ↦ absurd (omega (arith, mul-le-mul_right {m = e / n + 1} {n = k} n (omega arith)))
      | inr not_below ↦ omega (arith, mul-le-mul_right {m = k} {n = e / n} n not_below)
    ]

-- the epoch after some whole rounds and the node's turn is its next, if it is less than one round away
pub next_in_round : (promised node nodes k epoch : ℕ) → 1 ≤ node → node ≤ nodes → epoch ≡ k * nodes + (node - 1) + 1 → promised < epoch → epoch ≤ promised + nodes → IsNextEpoch promised node nodes epoch
next_in_round promised node nodes k epoch first last is above near = record {
  above = above;
  own = ap (λ t. t + 1) (ap (λ m. m % nodes) (let less : epoch - 1 ≡ k * nodes + (node - 1) = omega arith in less) ∙ mod-mul-add k nodes (node - 1) (omega arith)) ∙ (let node_is : node - 1 + 1 ≡ node = omega arith in node_is);
  least = λ e after own_e. let turn : (e - 1) % nodes ≡ node - 1 = omega arith in
      omega (arith, least_of_remainder promised nodes (node - 1) k (e - 1) (omega arith) (omega arith) turn);
}

-- how many turns are passed over where the node's turn is still to come in this round
pub turns_ahead : (turn passed nodes : ℕ) → passed ≤ turn → turn < nodes → (turn + (nodes - passed)) % nodes ≡ turn - passed
turns_ahead turn passed nodes ahead within =
    let round : turn + (nodes - passed) ≡ turn - passed + nodes = omega arith in
    ap (λ t. t % nodes) round ∙ add-mod_right (turn - passed) nodes ∙ mod-eq_of_lt (omega arith)

-- and where it comes in the next
pub turns_round : (turn passed nodes : ℕ) → turn < passed → passed ≤ nodes → (turn + (nodes - passed)) % nodes ≡ turn + (nodes - passed)
turns_round turn passed nodes behind within = mod-eq_of_lt (omega arith)

-- a node's next epoch is its least one above the promise, and at most a round above it
pub next_epoch_is : (promised node nodes : ℕ) → 1 ≤ node → node ≤ nodes
    → IsNextEpoch promised node nodes (next_epoch_of promised node nodes) × (next_epoch_of promised node nodes ≤ promised + nodes)
next_epoch_is promised node nodes first last =
    let passed = promised % nodes in
    let parts : promised / nodes * nodes + passed ≡ promised = div-add-mod' promised nodes in
    let within : passed < nodes = mod-lt promised (omega arith) in
    elim (cases_lt (node - 1) passed) [
      | inl behind ↦
          let turns : (node - 1 + (nodes - passed)) % nodes ≡ node - 1 + (nodes - passed) = turns_round (node - 1) passed nodes behind (omega arith) in
          (next_in_round promised node nodes (promised / nodes + 1) _ first last (omega arith) (omega arith) (omega arith), omega arith)
      | inr ahead ↦
          let turns : (node - 1 + (nodes - passed)) % nodes ≡ node - 1 - passed = turns_ahead (node - 1) passed nodes ahead (omega arith) in
          (next_in_round promised node nodes (promised / nodes) _ first last (omega arith) (omega arith) (omega arith), omega arith)
    ]
