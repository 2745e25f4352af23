-- How a worker's batches come to every node.
use Rattle.std.specs.Prelude.{◌≡◌, ℕ, ◌≤◌, [], ◌∷◌, ◌++◌, length}
use Rattle.atomic_table.specs.Seated.{TableId}
use Rattle.rl_base.specs.declared.limit.TheConstants.{NODES, SLOTS}
use Rattle.rl_paxos.specs.Acceptors.{Acceptor, kept_log}
use Rattle.rl_paxos.specs.Logs as bytes
use Rattle.rl_progress.specs.Rule.{IsPublisher}
use Rattle.rl_live.specs.Run.{acceptor_at}
use Rattle.rl_live.specs.Workers.{AllHave}
use Rattle.rl_live.specs.declared.line.Line.{Line}

-- the acceptor has adopted its one stream at the epoch
abbrev pub IsLedAt : (epoch : ℕ) → (a : Acceptor) → Type 0
IsLedAt epoch a = a ≡ acceptor_at epoch (kept_log a 1)

-- every node has the leader's log, and the seat publishes the stream
pub record IsSpread (progress : TableId) (line : Line) : Type 0 where
  pub have : AllHave line.stream.epoch line.stream.log line.acceptors.items
  pub short : length line.stream.log ≤ SLOTS
  pub few : length line.acceptors.items ≤ NODES
  pub seated : line.seat.table ≡ progress
  pub publishes : IsPublisher line.seat.view

-- the line of the same worker, at the same epoch and to as many nodes
pub record IsSameLine (before after : Line) : Type 0 where
  pub number : after.number ≡ before.number
  pub epoch : after.stream.epoch ≡ before.stream.epoch
  pub nodes : length after.acceptors.items ≡ length before.acceptors.items

-- the leader's log ends with a batch that no node has yet
pub record IsLastToSend (progress : TableId) (slot : ℕ) (batch : bytes.Batch) (line : Line) : Type 0 where
  pub log : bytes.Log
  pub log_is : line.stream.log ≡ log ++ batch ∷ []
  pub slot_is : slot ≡ length log
  pub have : AllHave line.stream.epoch log line.acceptors.items
  pub few : length line.acceptors.items ≤ NODES
  pub seated : line.seat.table ≡ progress
  pub publishes : IsPublisher line.seat.view
