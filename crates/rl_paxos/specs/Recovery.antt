-- What a candidate of an epoch collects and recovers, after the first phase of Multi-Paxos.
use Rattle.std.specs.Prelude.{◌≡◌, ℕ, zero, suc, ◌-◌, ◌≤◌, List, [], ◌∷◌, ◌++◌, length, Bool, not, ◌&&◌, ◌||◌, ◌==◌, nat_lt, if◌then◌else◌, slice_index, slice_index_or, Contains}
use Rattle.std.specs.List.{best_of, list_any}
use Rattle.rl_paxos.specs.Logs.{Log}
use Rattle.rl_paxos.specs.Quorums.{is_node}

-- what a node promised with: the ballot and the log of each of its streams
pub record Promise : Type 0 where
  pub node : ℕ
  pub ballots : List ℕ
  pub logs : List Log

-- a candidate of an epoch, which needs so many promises
pub record Candidate : Type 0 where
  pub epoch : ℕ
  pub nodes : ℕ
  pub streams : ℕ
  pub need : ℕ
  pub promises : List Promise

-- a candidate to whom no node has promised
abbrev pub new_candidate : (epoch nodes streams need : ℕ) → Candidate
new_candidate epoch nodes streams need =
    record { epoch = epoch; nodes = nodes; streams = streams; need = need; promises = [] }

-- it has one ballot and one log for each stream
abbrev pub HasStreams : (streams : ℕ) → Promise → Type 0
HasStreams streams p = (length p.ballots ≡ streams) × (length p.logs ≡ streams)

-- whether a node is among those that promised
abbrev pub has_promised : List Promise → (node : ℕ) → Bool
has_promised promises node = list_any (λ p. p.node == node) promises

-- after a promise: each node counts once, and its later ones are skipped
abbrev pub with_promise : Candidate → Promise → Candidate
with_promise c p =
    if is_node c.nodes p.node && not (has_promised c.promises p.node)
    then record c { promises = c.promises ++ p ∷ [] }
    else c

-- the ballot with which a node promised on a stream
abbrev pub promised_ballot : (s : ℕ) → Promise → ℕ
promised_ballot s p = slice_index p.ballots (s - 1)

-- and the log
abbrev pub promised_log : (s : ℕ) → Promise → Log
promised_log s p = slice_index_or p.logs (s - 1) []

-- a promise is better on a stream by a higher ballot, then by a longer log, then by a lesser node
abbrev pub is_better : (s : ℕ) → Promise → Promise → Bool
is_better s p q =
    nat_lt (promised_ballot s q) (promised_ballot s p)
    || ((promised_ballot s q == promised_ballot s p)
    && (nat_lt (length (promised_log s q)) (length (promised_log s p))
    || ((length (promised_log s q) == length (promised_log s p)) && nat_lt p.node q.node)))

-- the recovered log of a stream is the best promise's
abbrev pub recovered : List Promise → (s : ℕ) → Log
recovered [] s = []
recovered (p ∷ ps) s = promised_log s (best_of (is_better s) p ps)

-- of streams 1 to k, in their order
abbrev pub recovered_logs : List Promise → (k : ℕ) → List Log
recovered_logs promises zero = []
recovered_logs promises (suc k) = recovered_logs promises k ++ recovered promises (suc k) ∷ []

-- the recovered log in full: among the logs of the highest ballot the longest, and of equally long ones the least node's
pub record IsRecovered (promises : List Promise) (s : ℕ) (log : Log) : Type 0 where
  pub from : Promise
  pub promised : Contains promises from
  pub log_is : promised_log s from ≡ log
  pub highest : (p : Promise) → Contains promises p → promised_ballot s p ≤ promised_ballot s from
  pub longest : (p : Promise) → Contains promises p → promised_ballot s p ≡ promised_ballot s from
      → length (promised_log s p) ≤ length log
  pub least : (p : Promise) → Contains promises p → promised_ballot s p ≡ promised_ballot s from
      → length (promised_log s p) ≡ length log → from.node ≤ p.node
