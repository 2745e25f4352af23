-- The acknowledged length, as it is computed, is the greatest that a quorum has acked, and so it is each one that is.
use Rattle.std.proofs.Common.{◌≡◌, ℕ, zero, suc, ◌<◌, ◌≤◌, max, List, [], ◌∷◌, length, get_or, nat_le, inl, inr, arith}
use Rattle.std.proofs.lemmas.Bool.{cond_both, cases_lt, leb-true, leb-false}
use Rattle.rl_paxos.specs.Leaders.{acked_count, greatest_acked, acknowledged_len, IsAcknowledged}
use Rattle.rl_paxos.proofs.Least.{all_reach, none_above}

quorum_has : (quorum : ℕ) (acked lens : List ℕ) → quorum ≤ length acked → quorum ≤ acked_count acked (greatest_acked quorum acked lens)
quorum_has quorum acked [] within = omega (arith, all_reach acked)
quorum_has quorum acked (len ∷ lens) within =
    let rest : ℕ = greatest_acked quorum acked lens in
    let has : quorum ≤ acked_count acked rest = quorum_has quorum acked lens within in
    cond_both (nat_le quorum (acked_count acked len)) (max len rest) rest (λ z. quorum ≤ acked_count acked z)
    (λ t. elim (cases_lt len rest) [
      | inl l ↦ (let m : max len rest ≡ rest = omega arith in rw m has)
      | inr l ↦ (let m : max len rest ≡ len = omega arith in rw m (leb-true quorum (acked_count acked len) t))
    ])
    (λ t. has)

none_greater : (quorum : ℕ) (acked lens : List ℕ) (k : ℕ) → k < length lens → greatest_acked quorum acked lens < get_or lens k 0 → acked_count acked (get_or lens k 0) < quorum
none_greater quorum acked [] k l h = absurd (omega arith)
none_greater quorum acked (len ∷ lens) zero l h =
    let rest : ℕ = greatest_acked quorum acked lens in
    cond_both (nat_le quorum (acked_count acked len)) (max len rest) rest (λ z. z < len → acked_count acked len < quorum)
    (λ t less. absurd (omega arith))
    (λ t less. leb-false quorum (acked_count acked len) t) h
none_greater quorum acked (len ∷ lens) (suc k) l h =
    let rest : ℕ = greatest_acked quorum acked lens in
    let here : ℕ = get_or lens k 0 in
    let ih : rest < here → acked_count acked here < quorum = none_greater quorum acked lens k (omega (arith, l)) in
    cond_both (nat_le quorum (acked_count acked len)) (max len rest) rest (λ z. z < here → acked_count acked here < quorum)
    (λ t less. ih (omega arith))
    (λ t less. ih less) h

pub greatest_is_acknowledged : (quorum : ℕ) (acked : List ℕ) → 1 ≤ quorum → quorum ≤ length acked → IsAcknowledged quorum acked (acknowledged_len quorum acked)
greatest_is_acknowledged quorum acked some within = record {
  quorum_has = quorum_has quorum acked acked within;
  greatest = λ more h. none_above acked quorum (acknowledged_len quorum acked) some (λ k l. none_greater quorum acked acked k l) more h;
}

-- what a quorum has acknowledged is what is computed
pub acknowledged_is : (quorum : ℕ) (acked : List ℕ) (len : ℕ) → 1 ≤ quorum → quorum ≤ length acked → IsAcknowledged quorum acked len → len ≡ acknowledged_len quorum acked
acknowledged_is quorum acked len some within k =
    let h : IsAcknowledged quorum acked (acknowledged_len quorum acked) = greatest_is_acknowledged quorum acked some within in
    let up : len ≤ acknowledged_len quorum acked = h.greatest len k.quorum_has in
    let down : acknowledged_len quorum acked ≤ len = k.greatest (acknowledged_len quorum acked) h.quorum_has in
    omega arith
