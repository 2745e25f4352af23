-- Transactions one after another: what it means that a list of items is serial.
use Rattle.std.specs.Prelude.{◌≡◌, ℕ, ◌+◌, List, [], ◌∷◌, ◌++◌, length, map, filter, ◌==◌, slice_get, Option, Some, None, IsSomeAnd, zero, suc}
use Rattle.std.specs.List.{range_with_len}
use Rattle.std.specs.List.Sorted.{IsStrictlyIncreasing}
use Rattle.std.specs.Option.{option_and_then}
use Rattle.std.specs.FinMap as finite
use Rattle.rl_base.specs.Stamps.{packed}
use Rattle.rl_value.specs.Rows.{Rows}
use Rattle.rl_value.specs.Tables.{Table}
use Rattle.rl_txn.specs.Run.{run}
use Rattle.rl_txn.specs.declared.op.Op.{Op}
use Rattle.rl_txn.specs.declared.write.Write.{Write}
use Rattle.rl_txn.specs.declared.item.Item.{Item}

-- the rows after one write, which makes a row or takes one away
abbrev pub put_or_remove : Rows → ℕ × ℕ → Option (List ℕ) → Rows
put_or_remove rows place None = finite.remove rows place
put_or_remove rows place (Some row) = finite.insert rows place row

-- the same, of a write as it is kept
abbrev pub with_write : Rows → Write → Rows
with_write rows w = put_or_remove rows (w.table, w.key) w.row

-- the rows after some writes, in order
abbrev pub after_writes : Rows → List Write → Rows
after_writes rows [] = rows
after_writes rows (w ∷ writes) = after_writes (with_write rows w) writes

-- the rows after the writes of some items, in order
abbrev pub rows_after : Rows → List Item → Rows
rows_after rows [] = rows
rows_after rows (item ∷ items) = rows_after (after_writes rows item.writes) items

-- the element of a number, counted from 1
abbrev pub numbered : {X : Type 0} → List X → ℕ → Option X
numbered xs zero = None
numbered xs (suc n) = slice_get xs n

-- the request of a worker and an index, both counted from 1
abbrev pub request : List (List (List Op)) → (worker index : ℕ) → Option (List Op)
request lists worker index = option_and_then (λ list. numbered list index) (numbered lists worker)

-- the request that an item is of
abbrev pub request_of : List (List (List Op)) → Item → Option (List Op)
request_of lists item = request lists item.worker item.index

-- each item is what its request does on the rows after the items before it
abbrev pub Runs : List Table → List (List (List Op)) → Rows → List Item → Type 0
Runs tables lists rows [] = Unit {0}
Runs tables lists rows (item ∷ items) =
    IsSomeAnd (request_of lists item) (λ txn. run tables txn rows ≡ (item.reply, item.writes))
    × Runs tables lists (after_writes rows item.writes) items

-- one thread could have run the items in the order of their stamps
pub record IsSerial (tables : List Table) (lists : List (List (List Op))) (rows : Rows) (items : List Item) : Type 0 where
  pub rising : IsStrictlyIncreasing (map (λ (item : Item). packed item.stamp) items)
  pub runs : Runs tables lists rows items

-- the indexes of one worker's items, in the order of the items
abbrev pub indexes_of : ℕ → List Item → List ℕ
indexes_of worker items = map (λ (item : Item). item.index) (filter (λ (item : Item). item.worker == worker) items)

-- each worker's items are its requests from the first up to some one, in order
abbrev pub IsInLists : List Item → Type 0
IsInLists items = (worker : ℕ) → indexes_of worker items ≡ range_with_len 1 (length (indexes_of worker items))

-- the items of each worker that has a list are all of its requests, in order
abbrev pub IsWhole : List (List (List Op)) → List Item → Type 0
IsWhole lists items = (worker : ℕ) → (list : List (List Op)) → numbered lists worker ≡ Some list → indexes_of worker items ≡ range_with_len 1 (length list)

-- the worker and the index of each request: list by list, each from its first
abbrev pub requests_from : ℕ → List (List (List Op)) → List (ℕ × ℕ)
requests_from worker [] = []
requests_from worker (list ∷ lists) = map {B = ℕ × ℕ} (λ index. (worker, index)) (range_with_len 1 (length list)) ++ requests_from (worker + 1) lists

-- the items of all requests: list 1, then list 2 and so on, with the seqs from 2 on in epoch 1
pub record IsListByList (tables : List Table) (lists : List (List (List Op))) (rows : Rows) (items : List Item) : Type 0 where
  pub requests : map {B = ℕ × ℕ} (λ (item : Item). (item.worker, item.index)) items ≡ requests_from 1 lists
  pub stamps : map {B = ℕ × ℕ} (λ (item : Item). (item.stamp.epoch, item.stamp.seq)) items ≡ map {B = ℕ × ℕ} (λ seq. (1, seq)) (range_with_len 2 (length items))
  pub serial : IsSerial tables lists rows items
  pub in_lists : IsInLists items
  pub whole : IsWhole lists items
