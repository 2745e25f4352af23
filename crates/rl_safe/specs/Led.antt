-- The leaders of all epochs of a run, and how the logs, opening lists and refusals of its world stand to them.
use Rattle.std.specs.Prelude.{◌≡◌, ℕ, All, Contains, IsTrue}
use Rattle.rl_msg.specs.Ranges.{EmbeddedBatchInRange}
use Rattle.rl_paxos.specs.Logs as bytes
use Rattle.rl_election.specs.Chosen.{IsInitialLog, IsLeaderLog}
use Rattle.rl_txn.specs.Fits.{ItemWritesFit}
use Rattle.rl_txn.specs.declared.item.Item.{Item}
use Rattle.rl_families.specs.Logs.{items_along}
use Rattle.rl_families.specs.Leaders.{Leaders, AreLeaders, initial_log, leader_log, opening_list}
use Rattle.rl_families.specs.LeadersLogs.{AreSerialLeaders}
use Rattle.rl_worker.specs.Laws.{IsTrueCause}
use Rattle.rl_nodes.specs.Batches.{are_batches, batches_of}
use Rattle.rl_nodes.specs.Setups.{Setup, stream_numbers}
use Rattle.rl_nodes.specs.Streams.{stream_world}
use Rattle.rl_nodes.specs.World.{World, Opened, Attempt}

-- for each log of a property in a world, by epoch and stream
abbrev pub ForLogs : Setup → ((epoch s : ℕ) → bytes.Log → Type 0) → ((epoch s : ℕ) → bytes.Log → Type 0) → Type 0
ForLogs setup Is P = (epoch s : ℕ) → Contains (stream_numbers setup) s → (log : bytes.Log) → Is epoch s log → P epoch s log

-- a leader of an epoch has opened
abbrev pub HasOpened : World → (epoch : ℕ) → Type 0
HasOpened w epoch = (o : Opened) × Contains w.openings o × (o.epoch ≡ epoch)

-- what the leaders of all epochs have proposed in the run that came to a world, as the laws of families ask it
pub record IsLed (setup : Setup) (w : World) : Type 0 where
  pub leaders : Leaders
  pub are_leaders : AreLeaders leaders setup.workers
  pub serial : AreSerialLeaders setup.program.tables setup.program.lists setup.program.rows leaders setup.workers
  -- the log of each epoch's leader is what it recovered, its open mark and what it proposed, and so with the log that it began with
  pub logs : ForLogs setup (IsLeaderLog (stream_world setup w)) (λ epoch s log. batches_of log ≡ leader_log leaders epoch s)
  pub initials : ForLogs setup (IsInitialLog (stream_world setup w)) (λ epoch s log. batches_of log ≡ initial_log leaders epoch s)
  -- each element of such a log encodes a batch
  pub encoded : ForLogs setup (IsLeaderLog (stream_world setup w)) (λ epoch s log. IsTrue (are_batches log))
  -- with no more bytes than a batch may have
  pub short : ForLogs setup (IsLeaderLog (stream_world setup w)) (λ epoch s log. All EmbeddedBatchInRange log)
  -- what is decided fits the tables
  pub fit : (epoch : ℕ) (x : Item) → Contains (leaders.decided epoch) x → ItemWritesFit setup.program.tables x
  -- each opening list is the history of its epoch's initial logs
  pub openings : (o : Opened) → Contains w.openings o → o.items ≡ opening_list leaders setup.workers o.epoch
  -- only a leader that has opened has proposed items
  pub opened : (epoch s : ℕ) (x : Item) → Contains (items_along (leaders.proposed epoch s)) x → HasOpened w epoch
  -- an attempt was refused only for a true cause
  pub refusals : (f : Attempt) → Contains w.refusals f → IsTrueCause f.refusal.worker f.refusal.cause
