-- The one encoding of each batch, field by field. Numbers have one, four or eight bytes, the highest first.
use Rattle.std.specs.Prelude.{ℕ, List, [], ◌∷◌, ◌++◌, length, Option, Some, None}
use Rattle.std.specs.List.{flat_map}
use Rattle.byteorder.specs.Endian.{big_bytes}
use Rattle.rl_base.specs.declared.stamp.Stamp.{Stamp}
use Rattle.rl_txn.specs.declared.write.End.{End}
use Rattle.rl_txn.specs.declared.write.End.TheVariants.{Done, Declined}
use Rattle.rl_txn.specs.declared.write.Write.{Write}
use Rattle.rl_txn.specs.declared.item.Item.{Item}
use Rattle.rl_txn.specs.declared.batch.Batch.{Batch}
use Rattle.rl_txn.specs.declared.batch.Batch.TheVariants.{Items, Idle, Opened}

-- how many numbers, and each of them
abbrev pub numbers_bytes : List ℕ → List ℕ
numbers_bytes xs = big_bytes 1 (length xs) ++ flat_map (λ x. big_bytes 8 x) xs

-- the columns of a row: none where it is absent
abbrev pub columns_of_row : Option (List ℕ) → List ℕ
columns_of_row None = []
columns_of_row (Some row) = row

-- table, key, and the row
abbrev pub write_bytes : Write → List ℕ
write_bytes w = big_bytes 1 w.table ++ big_bytes 4 w.key ++ numbers_bytes (columns_of_row w.row)

-- how many writes, and each of them
abbrev pub writes_bytes : List Write → List ℕ
writes_bytes writes = big_bytes 1 (length writes) ++ flat_map write_bytes writes

-- 0 where done, else the number of the op that declined
abbrev pub end_number : End → ℕ
end_number Done = 0
end_number (Declined op) = op

-- seq, index, end, outs, writes
abbrev pub item_bytes : Item → List ℕ
item_bytes x =
    big_bytes 8 x.stamp.seq ++ big_bytes 4 x.index ++ big_bytes 1 (end_number x.reply.end)
    ++ numbers_bytes x.reply.outs ++ writes_bytes x.writes

-- the epoch of the first item
abbrev pub items_epoch : List Item → ℕ
items_epoch [] = 0
items_epoch (x ∷ xs) = x.stamp.epoch

-- the worker of the first item
abbrev pub items_worker : List Item → ℕ
items_worker [] = 0
items_worker (x ∷ xs) = x.worker

-- how many items, the epoch and the worker of all, and each of them
abbrev pub items_bytes : List Item → List ℕ
items_bytes xs =
    big_bytes 1 (length xs) ++ big_bytes 4 (items_epoch xs) ++ big_bytes 1 (items_worker xs) ++ flat_map item_bytes xs

-- epoch and seq
abbrev pub mark_bytes : Stamp → List ℕ
mark_bytes s = big_bytes 4 s.epoch ++ big_bytes 8 s.seq

-- 1 and items, 2 and an idle mark, or 3 and an open mark
abbrev pub batch_bytes : Batch → List ℕ
batch_bytes (Items xs) = 1 ∷ items_bytes xs
batch_bytes (Idle s) = 2 ∷ mark_bytes s
batch_bytes (Opened s) = 3 ∷ mark_bytes s
