-- What a session of a script gives back: what its nodes keep, its items, and its store as it was closed.
use Rattle.std.specs.Prelude.{◌≡◌, ℕ, ◌+◌, ◌-◌, ◌*◌, ◌^◌, ◌<◌, ◌≤◌, List, [], ◌∷◌, ◌++◌, length, map, sum, slice_index, slice_index_or, None, Ok, All, Contains}
use Rattle.std.specs.List.{AllZip}
use Rattle.std.specs.FinMap as finite
use Rattle.rl_base.specs.Words.{without_lock}
use Rattle.rl_base.specs.declared.stamp.Stamp.{Stamp}
use Rattle.rl_value.specs.Rows.{Rows}
use Rattle.rl_value.specs.Tables.{Table}
use Rattle.rl_tables.specs.Numbers.{sizes_of, place_of}
use Rattle.rl_txn.specs.Serial.{rows_after, IsSerial, IsInLists, IsWhole}
use Rattle.rl_txn.specs.declared.batch.Batch.{Batch}
use Rattle.rl_txn.specs.declared.item.Item.{Item}
use Rattle.rl_worker.specs.Stamping.{last_stamp}
use Rattle.rl_batch.specs.Reading.{read_batch}
use Rattle.rl_paxos.specs.Acceptors.{Acceptor}
use Rattle.rl_paxos.specs.Logs as bytes
use Rattle.rl_families.specs.Logs.{stamps_in_batch, stamps_along, items_along, top_epoch, IsRising}
use Rattle.rl_families.specs.Families.{history}
use Rattle.rl_families.specs.Leaders.{open_mark}
use Rattle.rl_families.specs.Streams.{log_at}
use Rattle.rl_store.specs.Ends.{ClosedOf}
use Rattle.rl_script.specs.declared.script.Script.{Script}
use Rattle.rl_live.specs.declared.run.NodeRun.{NodeRun}
use Rattle.rl_live.specs.declared.run.LiveRun.{LiveRun}

-- an acceptor of one stream that has promised an epoch, and adopted the stream's log at that ballot
abbrev pub acceptor_at : (epoch : ℕ) → (log : bytes.Log) → Acceptor
acceptor_at epoch log = record { promised = epoch; streams = record { ballot = epoch; log = log } ∷ [] }

-- the bytes of a log are read as these batches
abbrev pub IsReadAs : (log : bytes.Log) → (batches : List Batch) → Type 0
IsReadAs log batches = map read_batch log ≡ map Ok batches

-- each epoch in a log begins with its open mark: a batch with a stamp of an epoch is that mark, or stands behind it
abbrev pub EpochsOpen : (log : List Batch) → Type 0
EpochsOpen log = (before after : List Batch) (batch : Batch) (t : Stamp)
    → before ++ (batch ∷ after) ≡ log → Contains (stamps_in_batch batch) t
    → Contains (before ++ batch ∷ []) (open_mark t.epoch)

-- a log of a worker's stream as far as an epoch: it has marks, and items of that worker alone
pub record IsLogOf (epoch worker : ℕ) (log : List Batch) : Type 0 where
  pub last : top_epoch log ≡ epoch
  pub rising : IsRising (stamps_along log)
  pub own : All (λ x. x.worker ≡ worker) (items_along log)
  pub opens : EpochsOpen log

-- the logs of the streams of workers 1, 2 and so on
abbrev pub AreLogsOf : (epoch : ℕ) → (family : List (List Batch)) → Type 0
AreLogsOf epoch family =
    (worker : ℕ) → 1 ≤ worker → worker ≤ length family → IsLogOf epoch worker (log_at family worker)

-- a node has one acceptor for each stream, with its log, and these rows
pub record IsNodeWith (epoch : ℕ) (logs : List bytes.Log) (rows : Rows) (node : NodeRun) : Type 0 where
  pub acceptors : node.acceptors ≡ map (acceptor_at epoch) logs
  pub rows_are : node.map ≡ rows

-- a script without its lines `stop`, which a run of threads passes over
abbrev pub without_stops : Script → Script
without_stops script = record {
  schema = script.schema;
  rows = script.rows;
  nodes = script.nodes;
  workers = script.workers;
  batch = script.batch;
  loss = script.loss;
  seed = script.seed;
  stops = [];
  lists = script.lists;
  events = script.events;
}

-- a store that was closed after some items, with a word and a row for each record: the word, without its lock bit, is twice
-- the stamp of the last item that writes the record, or 0, and the row is the one after the items
pub record IsClosedAfter (tables : List Table) (rows : Rows) (items : List Item) (closed : ClosedOf) : Type 0 where
  pub many_words : length closed.words ≡ sum (sizes_of tables)
  pub many_rows : length closed.rows ≡ sum (sizes_of tables)
  pub words : (r : ℕ) → r < sum (sizes_of tables)
      → without_lock (slice_index closed.words r) ≡ 2 * last_stamp (sizes_of tables) r 0 items
  pub rows_are : (r : ℕ) → r < sum (sizes_of tables)
      → slice_index_or closed.rows r None ≡ finite.get (rows_after rows items) (place_of (sizes_of tables) r)

-- what a run of a script gives back: the last leader's epoch, which is at most one above the number of stops, and each
-- stream's log, as bytes and as what they are read as
pub record RunOk (script : Script) (run : LiveRun) : Type 0 where
  pub epoch : ℕ
  pub begun : 1 ≤ epoch
  pub few : epoch ≤ length script.stops + 1
  pub logs : List bytes.Log
  pub family : List (List Batch)
  pub streams : length family ≡ script.workers
  pub read : AllZip IsReadAs logs family
  pub logs_are : AreLogsOf epoch family
  -- the items are the history of these logs, which all nodes have, each with the rows after the items
  pub items_are : run.items ≡ history family
  pub nodes : length run.nodes ≡ script.nodes
  pub each_node : All (IsNodeWith epoch logs (rows_after script.rows run.items)) run.nodes
  -- and so has the store of the last epoch
  pub closed_epoch : run.closed.epoch ≡ epoch
  pub closed : IsClosedAfter script.schema script.rows run.items run.closed

-- items that one thread could have made of all requests: in the order of their stamps, each list's in its order, and no
-- request twice
pub record IsServed (script : Script) (items : List Item) : Type 0 where
  pub serial : IsSerial script.schema script.lists script.rows items
  pub in_lists : IsInLists items
  pub whole : IsWhole script.lists items

-- a stamp that a worker's commit may have, up to some epoch
pub record IsCommitStamp (most : ℕ) (s : Stamp) : Type 0 where
  pub some_epoch : 1 ≤ s.epoch
  pub few_epochs : s.epoch ≤ most
  pub low : 2 ≤ s.seq
  pub high : s.seq ≤ 2 ^ 40 - 2
