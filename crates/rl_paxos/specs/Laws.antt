-- What is true of recovered logs, of quorums and of acknowledged lengths.
use Rattle.std.specs.Prelude.{◌≡◌, ℕ, ◌+◌, ◌<◌, ◌≤◌, Bool, List, ◌∷◌, length, IsTrue}
use Rattle.rl_paxos.specs.Leaders.{acknowledged_len, IsAcknowledged}
use Rattle.rl_paxos.specs.Quorums.{is_node, is_quorum}
use Rattle.rl_paxos.specs.Recovery.{Promise, recovered, IsRecovered}

-- what is recovered is the longest of the logs of the highest ballot, and of equally long ones the least node's
abbrev pub TheBestIsRecovered : Type 0
TheBestIsRecovered = (p : Promise) (promises : List Promise) (s : ℕ) → IsRecovered (p ∷ promises) s (recovered (p ∷ promises) s)

-- a first and a second quorum, whose sizes sum above the number of nodes
pub record TwoQuorums (promised acked : ℕ → Bool) : Type 0 where
  pub nodes : ℕ
  pub first : ℕ
  pub second : ℕ
  pub above : nodes < first + second
  pub first_has : IsTrue (is_quorum first nodes promised)
  pub second_has : IsTrue (is_quorum second nodes acked)

-- two such quorums share a node
abbrev pub QuorumsShareANode : Type 0
QuorumsShareANode = (promised acked : ℕ → Bool) (q : TwoQuorums promised acked)
    → (a : ℕ) × IsTrue (is_node q.nodes a) × IsTrue (promised a) × IsTrue (acked a)

-- a quorum has acknowledged one length
abbrev pub OneIsAcknowledged : Type 0
OneIsAcknowledged = (quorum : ℕ) (acked : List ℕ) (len more : ℕ)
    → IsAcknowledged quorum acked len → IsAcknowledged quorum acked more → len ≡ more

-- of a quorum that is some of the nodes, the acknowledged length is the greatest that the quorum has acked
abbrev pub TheGreatestIsAcknowledged : Type 0
TheGreatestIsAcknowledged = (quorum : ℕ) (acked : List ℕ) → 1 ≤ quorum → quorum ≤ length acked
    → IsAcknowledged quorum acked (acknowledged_len quorum acked)
