use Rattle.std.proofs.Common.{ℕ, ◌<◌, ◌≤◌, get_or}
use Rattle.rl_paxos.specs.Leaders.{acked_count}
use Rattle.rl_stream.proofs.acknowledged.acknowledged_len.Given as goal

-- a quorum has the greatest length so far, and none that was seen above it
pub record SoFar (acked : ℕ → ℕ) (nodes_at : ℕ → ℕ) (quorum greatest index : ℕ) : Type 0 where
  pub quorum_has : quorum ≤ nodes_at greatest
  pub others : (k : ℕ) → k < index → greatest < acked k → nodes_at (acked k) < quorum

abbrev pub invariant-loop-len : goal.invariant-loop-len
invariant-loop-len l = SoFar (λ k. get_or l.acked k 0) (λ m. acked_count l.acked m) l.quorum l.greatest l.len-index
