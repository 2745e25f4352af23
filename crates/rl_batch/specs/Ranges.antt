-- The batches that have an encoding.
use Rattle.std.specs.Prelude.{◌≡◌, ℕ, ◌<◌, ◌≤◌, ◌^◌, ◌-◌, List, length, IfSome, All, AllPairs}
use Rattle.rl_base.specs.declared.limit.TheConstants.{WORKERS, TABLES, RECORDS, REQUESTS, OPS}
use Rattle.rl_base.specs.declared.stamp.Stamp.{Stamp}
use Rattle.rl_txn.specs.Fits.{IsPlaceBelow}
pub use Rattle.rl_txn.specs.Words.{AreWords, WriteHasWords, ItemHasWords}
use Rattle.rl_txn.specs.declared.write.End.{End}
use Rattle.rl_txn.specs.declared.write.End.TheVariants.{Done, Declined}
use Rattle.rl_txn.specs.declared.write.Write.{Write}
use Rattle.rl_txn.specs.declared.item.Item.{Item}
use Rattle.rl_txn.specs.declared.batch.Batch.{Batch}
use Rattle.rl_txn.specs.declared.batch.Batch.TheVariants.{Items, Idle, Opened}
use Rattle.rl_batch.specs.declared.item.TheConstants.{BATCH_ITEMS}
use Rattle.rl_batch.specs.Encoding.{items_epoch, items_worker}

-- a row of 1 to 4 columns or none, at a table and a key that may be
pub record WriteInRange (w : Write) : Type 0 where
  pub table : w.table ≤ TABLES - 1
  pub key : w.key ≤ RECORDS - 1
  pub some_columns : IfSome w.row (λ row. 1 ≤ length row)
  pub few_columns : IfSome w.row (λ row. length row ≤ 4)

-- done, or declined by an op
abbrev pub EndInRange : End → Type 0
EndInRange Done = Unit {0}
EndInRange (Declined op) = (1 ≤ op) × (op ≤ OPS)

-- how many writes an item may have: a declined one has none
abbrev pub most_writes : End → ℕ
most_writes Done = OPS
most_writes (Declined op) = 0

-- an item's own fields
pub record ItemInRange (x : Item) : Type 0 where
  pub seq_low : 2 ≤ x.stamp.seq
  pub seq_high : x.stamp.seq ≤ 2 ^ 40 - 2
  pub index_low : 1 ≤ x.index
  pub index_high : x.index ≤ REQUESTS
  pub end : EndInRange x.reply.end
  pub outs : length x.reply.outs ≤ OPS
  pub writes : length x.writes ≤ most_writes x.reply.end
  pub each_write : All WriteInRange x.writes
  pub rising : AllPairs IsPlaceBelow x.writes

-- some items of one epoch and one worker, whose seqs rise
pub record ItemsInRange (xs : List Item) : Type 0 where
  pub some : 1 ≤ length xs
  pub few : length xs ≤ BATCH_ITEMS
  pub epoch_low : 1 ≤ items_epoch xs
  pub epoch_high : items_epoch xs ≤ 2 ^ 20 - 1
  pub worker_low : 1 ≤ items_worker xs
  pub worker_high : items_worker xs ≤ WORKERS
  pub one_epoch : All (λ x. x.stamp.epoch ≡ items_epoch xs) xs
  pub one_worker : All (λ x. x.worker ≡ items_worker xs) xs
  pub each : All ItemInRange xs
  pub rising : AllPairs (λ x y. x.stamp.seq < y.stamp.seq) xs

-- a mark whose seq is from low to high
pub record MarkInRange (low high : ℕ) (s : Stamp) : Type 0 where
  pub epoch_low : 1 ≤ s.epoch
  pub epoch_high : s.epoch ≤ 2 ^ 20 - 1
  pub seq_low : low ≤ s.seq
  pub seq_high : s.seq ≤ high

-- an open mark has seq 1, and an idle mark a greater one
abbrev pub BatchInRange : Batch → Type 0
BatchInRange (Items xs) = ItemsInRange xs
BatchInRange (Idle s) = MarkInRange 2 (2 ^ 40 - 1) s
BatchInRange (Opened s) = MarkInRange 1 1 s

-- the outs and the columns are numbers of eight bytes, as they are in each value
abbrev pub HasWords : Batch → Type 0
HasWords (Items xs) = All ItemHasWords xs
HasWords mark = Unit {0}
