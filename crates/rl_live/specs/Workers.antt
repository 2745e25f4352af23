-- What one worker's thread is given, and what it hands back.
use Rattle.std.specs.Prelude.{◌≡◌, ℕ, ◌+◌, ◌-◌, ◌^◌, ◌≤◌, List, [], ◌∷◌, ◌++◌, length, map, All, Some}
use Rattle.std.specs.List.{range_with_len}
use Rattle.atomic_table.specs.Seated.{TableId}
use Rattle.rl_base.specs.declared.limit.TheConstants.{NODES, SLOTS}
use Rattle.rl_value.specs.Tables.{Table, IsSchema}
use Rattle.rl_txn.specs.Fits.{ListsFit}
use Rattle.rl_txn.specs.Serial.{numbered}
use Rattle.rl_txn.specs.declared.batch.Batch.{Batch}
use Rattle.rl_txn.specs.declared.batch.Batch.TheVariants.{Idle}
use Rattle.rl_txn.specs.declared.item.Item.{Item}
use Rattle.rl_txn.specs.declared.op.Op.{Op}
use Rattle.rl_families.specs.Logs.{stamps_along, items_along, IsRising}
use Rattle.rl_occ.specs.Fits.{IsStoreOf}
use Rattle.rl_paxos.specs.Acceptors.{Acceptor}
use Rattle.rl_paxos.specs.Logs as bytes
use Rattle.rl_progress.specs.Rule.{IsPublisher}
use Rattle.rl_store.specs.Passes.{StoreOf}
use Rattle.rl_store.specs.Views.{IsAtRest}
use Rattle.rl_store.specs.declared.view.View.{View}
use Rattle.rl_live.specs.Decided.{AreItemsOf}
use Rattle.rl_live.specs.Run.{acceptor_at, IsReadAs}
use Rattle.rl_live.specs.declared.worker.Worker.{Worker}
use Rattle.rl_live.specs.declared.worker.Done.{Done}

-- the mark that ends an epoch
abbrev pub end_mark : (epoch : ℕ) → Batch
end_mark epoch = Idle (record { epoch = epoch; seq = 2 ^ 40 - 1 })

-- the acceptors of a stream have all promised the epoch, and have this log at its ballot
abbrev pub AllHave : (epoch : ℕ) → (log : bytes.Log) → (acceptors : List Acceptor) → Type 0
AllHave epoch log acceptors = All (λ a. a ≡ acceptor_at epoch log) acceptors

-- the tries that a view began with
abbrev pub right_of : (v : View) → ℕ
right_of v = v.draws + v.tries

-- a worker's commit: an item of the worker under a stamp of the epoch that a draw may give
pub record IsCommit (epoch worker : ℕ) (x : Item) : Type 0 where
  pub own : x.worker ≡ worker
  pub dated : x.stamp.epoch ≡ epoch
  pub low : 2 ≤ x.stamp.seq
  pub high : x.stamp.seq ≤ 2 ^ 40 - 2

module _ (tables : List Table) where
  -- a worker is given all lists, of which one is its own, a pass at rest with nothing done, its stream with the same log at every node, and a seat
  pub record IsSetUp (store : StoreOf) (progress : TableId) (w : Worker) : Type 0 where
    pub schema : IsSchema tables
    pub lists_fit : ListsFit tables w.lists.now
    pub store_is : IsStoreOf store.made tables
    pub begun : 1 ≤ store.made.epoch
    pub number : (1 ≤ w.number) × (w.number ≤ length w.lists.now)
    pub some : 1 ≤ w.batch
    pub few : w.batch ≤ 64
    pub own : w.pass.table ≡ store.table
    pub rest : IsAtRest w.pass.view
    pub none : w.pass.view.items ≡ []
    pub leads : w.stream.epoch ≡ store.made.epoch
    pub have : AllHave store.made.epoch w.stream.log w.acceptors
    pub few_nodes : length w.acceptors ≤ NODES
    pub room : (list : List (List Op)) → numbered w.lists.now w.number ≡ Some list
        → length w.stream.log + length list + 1 ≤ SLOTS
    pub seated : w.seat.table ≡ progress
    pub publishes : IsPublisher w.seat.view
    pub nothing : w.seat.view.last ≡ 0

  -- it has done its whole list: its pass has its items, and every node has them in batches behind the log with which its
  -- stream began, and then the end mark
  pub record HasDone (store : StoreOf) (w : Worker) (d : Done) : Type 0 where
    pub bytes_of : bytes.Log
    pub batches : List Batch
    pub read : IsReadAs bytes_of (batches ++ end_mark store.made.epoch ∷ [])
    pub have : AllHave store.made.epoch (w.stream.log ++ bytes_of) d.acceptors
    pub nodes : length d.acceptors ≡ length w.acceptors
    -- the batches have items alone, whose stamps rise: commits of the worker, of its requests in order
    pub only : stamps_along batches ≡ map (λ x. x.stamp) (items_along batches)
    pub rising : IsRising (stamps_along batches)
    pub commits : All (IsCommit store.made.epoch w.number) (items_along batches)
    pub in_order : (list : List (List Op)) → numbered w.lists.now w.number ≡ Some list
        → map (λ x. x.index) (items_along batches) ≡ range_with_len 1 (length list)
    -- the pass rests with these items
    pub own : d.pass.table ≡ store.table
    pub rest : IsAtRest d.pass.view
    pub right : right_of d.pass.view ≡ right_of w.pass.view
    pub are : AreItemsOf tables w.lists.now (items_along batches) d.pass.view.items
