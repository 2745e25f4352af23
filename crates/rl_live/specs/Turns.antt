-- A worker in the midst of its list.
use Rattle.std.specs.Prelude.{◌≡◌, ◌⊎◌, ℕ, ◌+◌, ◌<◌, ◌≤◌, List, [], ◌∷◌, ◌++◌, length, map, All, Contains}
use Rattle.std.specs.List.{range_with_len}
use Rattle.atomic_table.specs.Seated.{TableId}
use Rattle.rl_base.specs.Stamps.{packed}
use Rattle.rl_value.specs.Tables.{Table}
use Rattle.rl_txn.specs.declared.batch.Batch.{Batch}
use Rattle.rl_txn.specs.declared.item.Item.{Item}
use Rattle.rl_txn.specs.declared.op.Op.{Op}
use Rattle.rl_families.specs.Logs.{stamps_along, items_along, IsRising}
use Rattle.rl_paxos.specs.Logs as bytes
use Rattle.rl_store.specs.Entries.{In}
use Rattle.rl_store.specs.Passes.{PassOf, StoreOf}
use Rattle.rl_store.specs.declared.view.Item as store
use Rattle.rl_store.specs.declared.view.View.{View}
use Rattle.rl_live.specs.Attempts.{IsQuiet}
use Rattle.rl_live.specs.Decided.{IsItemOf, AreItemsOf}
use Rattle.rl_live.specs.Run.{IsReadAs}
use Rattle.rl_live.specs.Sending.{IsSpread}
use Rattle.rl_live.specs.Workers.{IsCommit}
use Rattle.rl_live.specs.declared.line.Line.{Line}
use Rattle.rl_live.specs.declared.worker.Worker.{Worker}

-- a request was decided: the pass has one item more, which is that of the worker's item, above all before
pub record HasItem (tables : List Table) (lists : List (List (List Op))) (epoch worker index : ℕ) (v w : View) (x : Item) : Type 0 where
  pub quiet : IsQuiet v w
  pub kept : store.Item
  pub items : w.items ≡ v.items ++ kept ∷ []
  pub is : IsItemOf tables lists x kept
  pub commit : IsCommit epoch worker x
  pub index_is : x.index ≡ index
  pub above : (i : store.Item) → In i v.items → i.stamp < packed x.stamp

-- the first k requests were done: their items are those of the batches that every node has, and the pending ones
pub record IsAt (tables : List Table) (store : StoreOf) (progress : TableId) (w : Worker) (k : ℕ) (pass : PassOf) (pending : List Item) (line : Line) : Type 0 where
  pub bytes_of : bytes.Log
  pub batches : List Batch
  pub read : IsReadAs bytes_of batches
  pub log_is : line.stream.log ≡ w.stream.log ++ bytes_of
  pub only : stamps_along batches ≡ map (λ x. x.stamp) (items_along batches)
  pub rising : IsRising (map (λ x. x.stamp) (items_along batches ++ pending))
  pub commits : All (IsCommit store.made.epoch w.number) (items_along batches ++ pending)
  pub in_order : map (λ x. x.index) (items_along batches ++ pending) ≡ range_with_len 1 k
  pub own : pass.table ≡ store.table
  pub quiet : IsQuiet w.pass.view pass.view
  pub are : AreItemsOf tables w.lists.now (items_along batches ++ pending) pass.view.items
  pub spread : IsSpread progress line
  pub number : line.number ≡ w.number
  pub leads : line.stream.epoch ≡ store.made.epoch
  pub nodes : length line.acceptors.items ≡ length w.acceptors
  -- each batch has an item at least
  pub few : length bytes_of + length pending ≤ k
  -- what was published is no more than a seq of a batch
  pub published : (line.seat.view.last ≡ 0)
      ⊎ ((x : Item) × Contains (items_along batches) x × (line.seat.view.last ≤ x.stamp.seq))
