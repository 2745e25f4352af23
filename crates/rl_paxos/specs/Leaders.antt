-- The leader's side of a stream, after the second phase of Multi-Paxos.
use Rattle.std.specs.Prelude.{ℕ, ◌-◌, ◌≤◌, max, List, [], ◌∷◌, ◌++◌, length, replicate, count_by, nat_le, if◌then◌else◌, slice_index, slice_set}
use Rattle.rl_paxos.specs.Logs.{Batch, Log}
use Rattle.rl_paxos.specs.Quorums.{is_node}

-- a stream at its leader: how long the initial log was, the log now, and the greatest length that each node has acked
pub record Leading : Type 0 where
  pub epoch : ℕ
  pub quorum : ℕ
  pub initial_len : ℕ
  pub log : Log
  pub acked : List ℕ

-- a leader begins with a log, of which no node has acked anything
abbrev pub new_leading : (epoch nodes quorum : ℕ) → Log → Leading
new_leading epoch nodes quorum log =
    record { epoch = epoch; quorum = quorum; initial_len = length log; log = log; acked = replicate nodes 0 }

-- a proposal takes the next slot
abbrev pub proposed : Leading → Batch → Leading
proposed x batch = record x { log = x.log ++ batch ∷ [] }

-- the greatest length that a node has acked; 0 of a number that is no node's
abbrev pub acked_len : Leading → (node : ℕ) → ℕ
acked_len x node = if is_node (length x.acked) node then slice_index x.acked (node - 1) else 0

-- after an Ack: the greatest length of each node counts, so a late one changes nothing
abbrev pub with_ack : Leading → (node len : ℕ) → Leading
with_ack x node len =
    if is_node (length x.acked) node
    then record x { acked = slice_set x.acked (node - 1) (max (slice_index x.acked (node - 1)) len) }
    else x

-- how many nodes have acked a length
abbrev pub acked_count : List ℕ → (len : ℕ) → ℕ
acked_count acked len = count_by (λ a. nat_le len a) acked

-- the greatest of some lengths that a quorum has acked, or 0
abbrev pub greatest_acked : (quorum : ℕ) (acked lens : List ℕ) → ℕ
greatest_acked quorum acked [] = 0
greatest_acked quorum acked (len ∷ lens) =
    if nat_le quorum (acked_count acked len) then max len (greatest_acked quorum acked lens)
    else greatest_acked quorum acked lens

-- the acknowledged length: the greatest of the acked lengths that a quorum has acked
abbrev pub acknowledged_len : (quorum : ℕ) (acked : List ℕ) → ℕ
acknowledged_len quorum acked = greatest_acked quorum acked acked

-- the acknowledged length in full: of all lengths the greatest that a quorum has acked
pub record IsAcknowledged (quorum : ℕ) (acked : List ℕ) (len : ℕ) : Type 0 where
  pub quorum_has : quorum ≤ acked_count acked len
  pub greatest : (more : ℕ) → quorum ≤ acked_count acked more → more ≤ len
