-- What is true of what a node keeps, in every state.
use Rattle.std.specs.Prelude.{◌≡◌, ℕ, ◌-◌, ◌<◌, ◌≤◌, ◌^◌, List, length, false, take, slice_index_or, All}
use Rattle.rl_election.specs.World.{no_stream}
use Rattle.rl_families.specs.Streams.{log_at}
use Rattle.rl_msg.specs.Ranges.{LogInRange}
use Rattle.rl_paxos.specs.Acceptors.{Kept, Acceptor, kept_of, kept_log}
use Rattle.rl_paxos.specs.Leaders.{Leading}
use Rattle.rl_paxos.specs.Logs.{Log}
use Rattle.rl_paxos.specs.Recovery.{Promise, Candidate, promised_ballot, promised_log}
use Rattle.rl_replay.specs.Standing.{BeginsWithPlayed}
use Rattle.rl_txn.specs.declared.batch.Batch.{Batch}
use Rattle.rl_value.specs.Fits.{RowsFit}
use Rattle.rl_value.specs.Tables.{Table}
use Rattle.rl_nodes.specs.BadMessages.{is_wrong}
use Rattle.rl_nodes.specs.Batches.{batches_of}
use Rattle.rl_nodes.specs.Nodes.{len_acknowledged, acknowledged_log}
use Rattle.rl_nodes.specs.Setups.{Setup}
use Rattle.rl_node.specs.declared.part.Lead.{Lead}
use Rattle.rl_node.specs.declared.running.Running.{Running}

-- s is the number of a stream
abbrev pub IsStream : Setup → (s : ℕ) → Type 0
IsStream setup s = (1 ≤ s) × (s ≤ setup.workers)

-- an epoch that a node may have
pub record IsEpoch (e : ℕ) : Type 0 where
  pub low : 1 ≤ e
  pub high : e ≤ 2 ^ 20 - 1

-- a log of stream s is in range, and nothing is wrong with it at an epoch
pub record LogFits (tables : List Table) (s e : ℕ) (log : Log) : Type 0 where
  pub in_range : LogInRange log
  pub right : is_wrong tables (record { stream = s; epoch = e; log = log }) ≡ false

-- what an acceptor keeps of stream s
pub record KeptFits (tables : List Table) (s : ℕ) (k : Kept) : Type 0 where
  pub ballot : k.ballot ≤ 2 ^ 20 - 1
  pub log : LogFits tables s k.ballot k.log

-- what it keeps of each stream
pub record AcceptorFits (setup : Setup) (x : Acceptor) : Type 0 where
  pub streams : length x.streams ≡ setup.workers
  pub promised : x.promised ≤ 2 ^ 20 - 1
  pub each : (s : ℕ) → IsStream setup s → KeptFits setup.program.tables s (kept_of x s)

-- some batches are those that a front of a log of bytes encodes
pub record IsFront (log : Log) (batches : List Batch) : Type 0 where
  pub within : length batches ≤ length log
  pub is : batches ≡ batches_of (take (length batches) log)

-- what a node knows to be chosen, and its replica, are of what its acceptor keeps; its rows fit where the opening rows do
pub record RunningFits (setup : Setup) (x : Acceptor) (r : Running) : Type 0 where
  pub known_streams : length r.known ≡ setup.workers
  pub known : (s : ℕ) → IsStream setup s → IsFront (kept_log x s) (log_at r.known s)
  pub played_streams : length r.replica.replaying.played ≡ setup.workers
  pub begins : (s : ℕ) → IsStream setup s → BeginsWithPlayed r.replica s (log_at r.known s)
  pub rows : RowsFit setup.program.tables setup.program.rows → RowsFit setup.program.tables r.replica.replaying.rows

-- a promise to a candidate of an epoch: on each stream the ballot is below it, and the log fits the ballot
pub record PromiseFits (setup : Setup) (e : ℕ) (p : Promise) : Type 0 where
  pub ballot : (s : ℕ) → IsStream setup s → promised_ballot s p < e
  pub log : (s : ℕ) → IsStream setup s → LogFits setup.program.tables s (promised_ballot s p) (promised_log s p)

-- a candidate
pub record CandidateFits (setup : Setup) (c : Candidate) : Type 0 where
  pub epoch : IsEpoch c.epoch
  pub nodes : c.nodes ≡ setup.nodes
  pub streams : c.streams ≡ setup.workers
  pub need : c.need ≡ setup.first_quorum
  pub promises : All (PromiseFits setup c.epoch) c.promises

-- stream s of the leader of an epoch
pub record LeadingFits (setup : Setup) (e s : ℕ) (x : Leading) : Type 0 where
  pub epoch : x.epoch ≡ e
  pub quorum : x.quorum ≡ setup.second_quorum
  pub nodes : length x.acked ≡ setup.nodes
  pub some : 1 ≤ x.initial_len
  pub began : x.initial_len ≤ length x.log
  pub within : len_acknowledged x ≤ length x.log
  pub log : LogFits setup.program.tables s e x.log

-- a leader: its streams, and what a second quorum has acked of each
pub record LeadFits (setup : Setup) (l : Lead) : Type 0 where
  pub epoch : IsEpoch l.epoch
  pub streams : length l.streams.items ≡ setup.workers
  pub each : (s : ℕ) → IsStream setup s → LeadingFits setup l.epoch s (slice_index_or l.streams.items (s - 1) no_stream)
  pub acknowledged_streams : length l.acknowledged ≡ setup.workers
  pub acknowledged : (s : ℕ) → IsStream setup s
      → log_at l.acknowledged s ≡ batches_of (acknowledged_log (slice_index_or l.streams.items (s - 1) no_stream))
  pub pending : length l.pending.items ≡ setup.workers
