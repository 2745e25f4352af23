-- How an epoch's store opens, what each worker is handed, and what of all that they hand back is joined.
use Rattle.std.specs.Prelude.{◌≡◌, ℕ, ◌+◌, ◌*◌, ◌^◌, ◌<◌, ◌≤◌, List, [], ◌++◌, length, map, take, replicate, slice_index_or, None, Result, IfOk, All}
use Rattle.std.specs.List.{AllZip}
use Rattle.std.specs.FinMap as finite
use Rattle.atomic_table.specs.Seated.{TableId}
use Rattle.rl_base.specs.declared.limit.TheConstants.{SLOTS}
use Rattle.rl_base.specs.declared.memory.Memory.{Memory}
use Rattle.rl_value.specs.Rows.{Rows}
use Rattle.rl_tables.specs.Numbers.{place_of}
use Rattle.rl_txn.specs.declared.batch.Batch.{Batch}
use Rattle.rl_txn.specs.Serial.{rows_after}
use Rattle.rl_families.specs.Families.{AllRise, history}
use Rattle.rl_families.specs.Logs.{items_along}
use Rattle.rl_paxos.specs.Acceptors.{Acceptor}
use Rattle.rl_paxos.specs.Logs as bytes
use Rattle.rl_occ.specs.Fits.{IsStoreOf}
use Rattle.rl_progress.specs.Rule.{publisher}
use Rattle.rl_progress.specs.Seats.{SeatOf}
use Rattle.rl_script.specs.declared.script.Script.{Script}
use Rattle.rl_script.specs.Fits.{ScriptFits}
use Rattle.rl_store.specs.declared.view.Item as kept
use Rattle.rl_store.specs.Ends.{ClosedOf}
use Rattle.rl_store.specs.Entries.{RowOf}
use Rattle.rl_store.specs.Passes.{StoreOf, PassOf}
use Rattle.rl_store.specs.Views.{IsAtRest}
use Rattle.rl_live.specs.declared.worker.Worker.{Worker}
use Rattle.rl_live.specs.declared.worker.Done.{Done}
use Rattle.rl_live.specs.Decided.{AreItemsOf}
use Rattle.rl_live.specs.Elections.{with_mark}
use Rattle.rl_live.specs.Ended.{WholeLogs, together}
use Rattle.rl_live.specs.declared.run.LiveRun.{LiveRun}
use Rattle.rl_live.specs.Reading.{CanReplay}
use Rattle.rl_live.specs.Run.{acceptor_at, IsReadAs}
use Rattle.rl_live.specs.Workers.{IsSetUp, HasDone, right_of}

-- the rows of the first n records
pub record HasRows (sizes : List ℕ) (rows : Rows) (n : ℕ) (list : List RowOf) : Type 0 where
  pub long : length list ≡ n
  pub each : (r : ℕ) → r < n → slice_index_or list r None ≡ finite.get rows (place_of sizes r)

-- the k-th of the list, counted from n, has it of its number
abbrev pub AllFrom : {X : Type 0} (P : ℕ → X → Type 0) (n : ℕ) (xs : List X) → Type 0
AllFrom {X} P n xs = (k : ℕ) (d : X) → k < length xs → P (n + k) (slice_index_or xs k d)

-- a script whose longest list has room in a stream for its items and both marks
pub record IsLive (script : Script) : Type 0 where
  pub fits : ScriptFits script
  pub short : All (λ list. length list + 2 ≤ SLOTS) script.lists

-- what all acceptors of a row of nodes keep: a row has one acceptor for each log
abbrev pub rows_with : (epoch nodes : ℕ) → List bytes.Log → List (List Acceptor)
rows_with epoch nodes logs = replicate nodes (map (acceptor_at epoch) logs)

module _ (script : Script) (store : StoreOf) (progress : TableId) (tries : ℕ) where
  -- worker n is ready: it has its tries, and its stream has the open mark alone
  pub record IsReadyAs (n : ℕ) (w : Worker) : Type 0 where
    pub set_up : IsSetUp script.schema store progress w
    pub lists_are : w.lists.now ≡ script.lists
    pub few_epochs : store.made.epoch < 2 ^ 20
    pub numbered_as : w.number ≡ n
    pub log_is : w.stream.log ≡ with_mark store.made.epoch []
    pub nodes : length w.acceptors ≡ script.nodes
    pub right : right_of w.pass.view ≡ tries

  -- worker n has done its list
  abbrev pub IsDoneAs : (n : ℕ) (d : Done) → Type 0
  IsDoneAs n d = (w : Worker) × IsReadyAs n w × HasDone script.schema store w d

  -- what a worker's thread handed back, if memory was found
  abbrev pub IsEndAs : (n : ℕ) (r : Result Done Memory) → Type 0
  IsEndAs n r = IfOk r (λ d. IsDoneAs n d)

  -- the first k workers are joined: the pass has their items, and the rows of nodes their logs
  pub record IsJoined (k : ℕ) (start pass : PassOf) (rows : List (List Acceptor)) : Type 0 where
    pub logs : List bytes.Log
    pub family : List (List Batch)
    pub passes : List (List kept.Item)
    pub rows_are : rows ≡ rows_with store.made.epoch script.nodes logs
    pub read : AllZip IsReadAs logs family
    pub whole : WholeLogs store.made.epoch 1 (take k script.lists) family
    pub kept : AllZip (λ log is. AreItemsOf script.schema script.lists (items_along log) is) family passes
    pub own : pass.table ≡ store.table
    pub rest : IsAtRest pass.view
    pub items : pass.view.items ≡ start.view.items ++ together passes
    pub right : right_of pass.view ≡ right_of start.view + k * tries

-- the pass of a store after k workers got their tries from it: it has done nothing
pub record IsFreshAfter (store : StoreOf) (tries k : ℕ) (start pass : PassOf) : Type 0 where
  pub own : pass.table ≡ store.table
  pub rest : IsAtRest pass.view
  pub none : pass.view.items ≡ []
  pub left : pass.view.tries + k * tries ≡ start.view.tries
  pub draws : pass.view.draws ≡ start.view.draws

-- the seat that publishes stream s, counted from 0
abbrev pub seat_of : (progress : TableId) (s : ℕ) → SeatOf
seat_of progress s = record { table = progress; view = publisher progress.words s }

-- a store for the tables of a script, of an epoch
pub record IsStage (script : Script) (store : StoreOf) : Type 0 where
  pub live : IsLive script
  pub store_is : IsStoreOf store.made script.schema
  pub begun : 1 ≤ store.made.epoch
  pub few : store.made.epoch < 2 ^ 20

-- all workers have run and are joined: the pass has all their items, and each node has a whole log of each worker
pub record HasRun (script : Script) (store : StoreOf) (right : ℕ) (pass : PassOf) (rows : List (List Acceptor)) : Type 0 where
  pub logs : List bytes.Log
  pub family : List (List Batch)
  pub passes : List (List kept.Item)
  pub rows_are : rows ≡ rows_with store.made.epoch script.nodes logs
  pub read : AllZip IsReadAs logs family
  pub whole : WholeLogs store.made.epoch 1 script.lists family
  pub kept_are : AllZip (λ log is. AreItemsOf script.schema script.lists (items_along log) is) family passes
  pub own : pass.table ≡ store.table
  pub rest : IsAtRest pass.view
  pub items : pass.view.items ≡ together passes
  pub right_is : right_of pass.view ≡ right

-- the logs of all nodes can be read and replayed
pub record CanFinish (script : Script) (epoch : ℕ) (logs : List bytes.Log) (family : List (List Batch)) (rows : List (List Acceptor)) : Type 0 where
  pub rows_are : rows ≡ rows_with epoch script.nodes logs
  pub read : AllZip IsReadAs logs family
  pub few : length family < 2 ^ 32
  pub rising : AllRise family
  pub replays : CanReplay script.schema family

-- what is left of them: their history, and each node with the rows after it
pub record HasFinished (script : Script) (family : List (List Batch)) (rows : List (List Acceptor)) (closed : ClosedOf) (run : LiveRun) : Type 0 where
  pub items_are : run.items ≡ history family
  pub acceptors_are : map (λ node. node.acceptors) run.nodes ≡ rows
  pub maps : All (λ node. node.map ≡ rows_after script.rows (history family)) run.nodes
  pub closed_is : run.closed ≡ closed
