-- What holds of a stream's fields between calls.
use Rattle.std.specs.Prelude.{ℕ, ◌≤◌, List, length, All}
use Rattle.rl_base.specs.declared.limit.TheConstants.{SLOTS}
use Rattle.rl_paxos.specs.Leaders.{IsAcknowledged}
use Rattle.rl_paxos.specs.Logs.{Log}

-- a quorum is some of the nodes, the slots suffice, the log is no shorter than the initial log, no node has acked more than the
-- log, and the acknowledged length that is kept is the one of the acks
pub record StreamFits (quorum initial_len acknowledged : ℕ) (log : Log) (acked : List ℕ) : Type 0 where
  pub some : 1 ≤ quorum
  pub within : quorum ≤ length acked
  pub short : length log ≤ SLOTS
  pub began : initial_len ≤ length log
  pub reach : All (λ a. a ≤ length log) acked
  pub is_acknowledged : IsAcknowledged quorum acked acknowledged
