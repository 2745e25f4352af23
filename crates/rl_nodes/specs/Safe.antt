-- What is safe at every moment of a run.
use Rattle.std.specs.Prelude.{◌≡◌, ℕ, ◌<◌, List, map, Contains, IsTrue}
use Rattle.rl_base.specs.Lists.{IsPrefix}
use Rattle.rl_txn.specs.declared.item.Item.{Item}
use Rattle.rl_txn.specs.Serial.{rows_after}
use Rattle.rl_paxos.specs.Logs as bytes
use Rattle.rl_election.specs.World as streams
use Rattle.rl_election.specs.Chosen.{IsLongestChosen}
use Rattle.rl_families.specs.Families.{history}
use Rattle.rl_families.specs.LeadersLogs.{IsSerialHistory}
use Rattle.rl_worker.specs.Laws.{IsTrueCause}
use Rattle.rl_nodes.specs.Batches.{batches_of}
use Rattle.rl_nodes.specs.Nodes.{NodeState, known_history}
use Rattle.rl_nodes.specs.Setups.{Setup, node_numbers, stream_numbers, cluster_of}
use Rattle.rl_nodes.specs.Streams.{stream_world}
use Rattle.rl_nodes.specs.Views.{is_at_watermark}
use Rattle.rl_nodes.specs.World.{World, Opened, Given, Attempt, node_of}

-- the history of the logs of all streams
abbrev pub history_of : Setup → (log : ℕ → bytes.Log) → List Item
history_of setup log = history (map (λ s. batches_of (log s)) (stream_numbers setup))

-- the logs are the longest that are chosen
abbrev pub AreChosen : Setup → World → (chosen : ℕ → bytes.Log) → Type 0
AreChosen setup w chosen = (s : ℕ) → Contains (stream_numbers setup) s
    → IsLongestChosen (cluster_of setup) (stream_world setup w) s (chosen s)

-- what a node knows begins the history, what its replica has applied is part of that, and at its watermark its rows are those that
-- the whole of it leaves
pub record ReplicaIsSafe (setup : Setup) (history : List Item) (x : NodeState) : Type 0 where
  pub known : IsPrefix (known_history setup x) history
  pub applied : (item : Item) → Contains x.replica.applied item → Contains (known_history setup x) item
  pub rows : IsTrue (is_at_watermark setup x) → x.replica.rows ≡ rows_after setup.program.rows (known_history setup x)

-- what a leader opened with begins the history, and each history from which a leader of an earlier epoch had released begins what it
-- opened with; a leader that never opened, or released nothing, is not spoken of
pub record OpeningIsSafe (gave : List Given) (history : List Item) (o : Opened) : Type 0 where
  pub begins : IsPrefix o.items history
  pub earlier : (g : Given) → Contains gave g → g.epoch < o.epoch → IsPrefix g.history o.items

-- all that is promised of a world
pub record Safe (setup : Setup) (w : World) : Type 0 where
  -- the longest chosen log of each stream: there is but one; a quorum once acked it, though a node that is lost has it no more
  pub chosen : ℕ → bytes.Log
  pub are_chosen : AreChosen setup w chosen
  -- one thread could have run that history, each worker's requests in order and none twice
  pub serial : IsSerialHistory setup.program.tables setup.program.lists setup.program.rows (history_of setup chosen)
  -- what was released begins it
  pub released : IsPrefix w.released (history_of setup chosen)
  -- so does what each node that is up knows
  pub replicas : (a : ℕ) → Contains (node_numbers setup) a → (node_of setup w a).state ≡ streams.Up
      → ReplicaIsSafe setup (history_of setup chosen) (node_of setup w a)
  -- and each opening list, which has all that earlier leaders release
  pub openings : (o : Opened) → Contains w.openings o → OpeningIsSafe w.gave (history_of setup chosen) o
  -- an attempt was refused only where another worker held a record, or its stamp had moved
  pub refusals : (f : Attempt) → Contains w.refusals f → IsTrueCause f.refusal.worker f.refusal.cause
