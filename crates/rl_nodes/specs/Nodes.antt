-- A node: its acceptor, how much of its logs it knows to be chosen, its replica, and its part in an epoch.
use Rattle.std.specs.Prelude.{ℕ, ◌-◌, ◌==◌, nat_le, List, [], map, replicate, take, slice_index, slice_index_or, slice_set, Bool, is_some, Option}
use Rattle.std.specs.List.{list_all}
use Rattle.rl_txn.specs.declared.item.Item.{Item}
use Rattle.rl_txn.specs.declared.batch.Batch.{Batch}
use Rattle.rl_paxos.specs.Acceptors.{Acceptor, new_acceptor, kept_log}
use Rattle.rl_paxos.specs.Leaders.{Leading, acknowledged_len}
use Rattle.rl_paxos.specs.Logs as bytes
use Rattle.rl_paxos.specs.Recovery.{Candidate}
use Rattle.rl_election.specs.World.{State, Up, no_stream}
use Rattle.rl_families.specs.Families.{history}
use Rattle.rl_families.specs.Logs.{last_seq}
use Rattle.rl_replay.specs.Laws.{new_replica}
use Rattle.rl_replay.specs.Replay.{Replaying}
use Rattle.rl_worker.specs.Acts.{Core}
use Rattle.rl_nodes.specs.Batches.{batches_of, END_SEQ}
use Rattle.rl_nodes.specs.Setups.{Setup, stream_numbers}

-- a leader: its epoch and streams, its workers once it has opened, and by worker the items that have ended and are not
-- proposed yet
pub record Lead : Type 0 where
  pub epoch : ℕ
  pub streams : List Leading
  pub core : Option Core
  pub pending : List (List Item)

-- a node follows, stands for an epoch as its candidate, or leads one
pub data Part : Type 0 where
  Follows : Part
  Stands : Candidate → Part
  Leads : Lead → Part

-- a node: whether it is up, down or lost, its acceptor, by stream how many batches are known to be chosen, its replica and its
-- part
pub record NodeState : Type 0 where
  pub state : State
  pub acceptor : Acceptor
  pub known : List ℕ
  pub replica : Replaying
  pub part : Part

-- ---- at first ----

-- nothing is known to be chosen
abbrev pub nothing_known : Setup → List ℕ
nothing_known setup = replicate setup.workers 0

-- a replica at the opening rows, which has played nothing
abbrev pub opening_replica : Setup → Replaying
opening_replica setup = new_replica setup.program.rows (replicate setup.workers [])

-- a node that is up and follows, to which nothing was sent
abbrev pub new_node : Setup → NodeState
new_node setup = record {
  state = Up;
  acceptor = new_acceptor setup.workers;
  known = nothing_known setup;
  replica = opening_replica setup;
  part = Follows;
}

-- ---- what is known ----

-- how many batches of stream s are known to be chosen
abbrev pub known_len : NodeState → (s : ℕ) → ℕ
known_len x s = slice_index x.known (s - 1)

-- the known prefix of stream s
abbrev pub known_log : NodeState → (s : ℕ) → bytes.Log
known_log x s = take (known_len x s) (kept_log x.acceptor s)

-- the known prefixes of all streams
abbrev pub known_family : Setup → NodeState → List (List Batch)
known_family setup x = map (λ s. batches_of (known_log x s)) (stream_numbers setup)

-- and their history
abbrev pub known_history : Setup → NodeState → List Item
known_history setup x = history (known_family setup x)

-- ---- a leader ----

-- a stream of a leader
abbrev pub leading : Lead → (s : ℕ) → Leading
leading lead s = slice_index_or lead.streams (s - 1) no_stream

-- the leader with another stream s
abbrev pub with_leading : Lead → (s : ℕ) → Leading → Lead
with_leading lead s stream = record lead { streams = slice_set lead.streams (s - 1) stream }

-- the log with which a leader began on a stream
abbrev pub initial_log_of : Leading → bytes.Log
initial_log_of stream = take stream.initial_len stream.log

-- how many batches of a stream a second quorum has acked, as far as the leader has received
abbrev pub len_acknowledged : Leading → ℕ
len_acknowledged stream = acknowledged_len stream.quorum stream.acked

-- the batches of a stream that a second quorum has acked
abbrev pub acknowledged_log : Leading → bytes.Log
acknowledged_log stream = take (len_acknowledged stream) stream.log

-- the same of all streams
abbrev pub acknowledged_family : Lead → List (List Batch)
acknowledged_family lead = map (λ stream. batches_of (acknowledged_log stream)) lead.streams

-- and their history, from which a leader releases
abbrev pub acknowledged_history : Lead → List Item
acknowledged_history lead = history (acknowledged_family lead)

-- whether a leader has opened
abbrev pub has_opened : Lead → Bool
has_opened lead = is_some lead.core

-- whether a second quorum has acked the open mark of every stream
abbrev pub marks_are_acknowledged : Lead → Bool
marks_are_acknowledged lead = list_all (λ stream. nat_le stream.initial_len (len_acknowledged stream)) lead.streams

-- the pending items of worker w
abbrev pub pending_of : Lead → (w : ℕ) → List Item
pending_of lead w = slice_index_or lead.pending (w - 1) []

-- the leader with other pending items of worker w
abbrev pub with_pending : Lead → (w : ℕ) → List Item → Lead
with_pending lead w items = record lead { pending = slice_set lead.pending (w - 1) items }

-- whether stream s of a leader has its end mark
abbrev pub has_end_mark : Lead → (s : ℕ) → Bool
has_end_mark lead s = last_seq (batches_of (leading lead s).log) lead.epoch == END_SEQ
