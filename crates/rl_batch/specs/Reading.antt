-- What bytes that should be a batch say from left to right, or the first fault.
use Rattle.std.specs.Prelude.{ℕ, zero, suc, ◌+◌, ◌-◌, ◌^◌, ◌==◌, nat_lt, List, [], ◌∷◌, Option, Some, None, Result, Ok, Err, if◌then◌else◌}
use Rattle.rl_base.specs.Results.{◌>>=◌}
use Rattle.rl_base.specs.declared.flaw.Flaw.{Flaw}
use Rattle.rl_base.specs.declared.flaw.Flaw.TheVariants.{Kind, Short, Order}
use Rattle.rl_base.specs.declared.limit.TheConstants.{WORKERS, TABLES, RECORDS, REQUESTS, OPS}
use Rattle.rl_base.specs.declared.stamp.Stamp.{Stamp}
use Rattle.rl_fields.specs.declared.fault.Fault.{Fault}
use Rattle.rl_fields.specs.Faults.{fault_at, with_offset}
use Rattle.rl_fields.specs.Fields.{number, within, series, several, whole}
use Rattle.rl_txn.specs.declared.write.End.{End}
use Rattle.rl_txn.specs.declared.write.End.TheVariants.{Done, Declined}
use Rattle.rl_txn.specs.declared.write.Write.{Write}
use Rattle.rl_txn.specs.declared.item.Item.{Item}
use Rattle.rl_txn.specs.declared.batch.Batch.{Batch}
use Rattle.rl_txn.specs.declared.batch.Batch.TheVariants.{Items, Idle, Opened}
use Rattle.rl_batch.specs.declared.item.TheConstants.{BATCH_ITEMS}
use Rattle.rl_batch.specs.Ranges.{most_writes}

-- a number of n bytes from low to high; below the least that may come it is out of order, a fault of the field at other bytes
unfoldable pub rising : (n low high least : ℕ) → (field bytes : List ℕ) → Result (ℕ × List ℕ) Fault
rising n low high least field bytes = do
  x ← within n low high bytes
  if nat_lt x.0 least then Err (fault_at field Order) else Ok x

-- up to `most` numbers, behind how many they are
unfoldable pub numbers : (most : ℕ) → (bytes : List ℕ) → Result (List ℕ × List ℕ) Fault
numbers most bytes = do
  count ← within 1 0 most bytes
  several (number 8) count.0 count.1

-- the row that has these columns, or an absent one where there are none
abbrev pub row_of_columns : List ℕ → Option (List ℕ)
row_of_columns [] = None
row_of_columns (cell ∷ cells) = Some (cell ∷ cells)

-- a row of up to 4 columns, behind how many they are
unfoldable pub row : (bytes : List ℕ) → Result (Option (List ℕ) × List ℕ) Fault
row bytes = do
  cells ← numbers 4 bytes
  Ok (row_of_columns cells.0, cells.1)

-- the least key that may come in a table, after the least place that may come
abbrev pub least_key : (least : ℕ × ℕ) → (table : ℕ) → ℕ
least_key least table = if table == least.0 then least.1 else 0

-- a write whose place may come; where it may not, that is a fault of its table
unfoldable pub write : (least : ℕ × ℕ) → (bytes : List ℕ) → Result (Write × List ℕ) Fault
write least bytes = do
  table ← rising 1 0 (TABLES - 1) least.0 bytes bytes
  key ← rising 4 0 (RECORDS - 1) (least_key least table.0) bytes table.1
  row ← row key.1
  Ok (record { table = table.0; key = key.0; row = row.0 }, row.1)

-- the least place after that of a write
abbrev pub place_after : Write → ℕ × ℕ
place_after w = (w.table, w.key + 1)

-- the end that a number stands for: 0 is done, and another is the op that declined
abbrev pub end_of : ℕ → End
end_of zero = Done
end_of (suc op) = Declined (suc op)

-- up to `most` writes, behind how many they are
unfoldable pub writes : (most : ℕ) → (bytes : List ℕ) → Result (List Write × List ℕ) Fault
writes most bytes = do
  count ← within 1 0 most bytes
  series write place_after count.0 (0, 0) count.1

-- an item of an epoch and a worker, with a seq that may come
unfoldable pub item : (epoch worker least : ℕ) → (bytes : List ℕ) → Result (Item × List ℕ) Fault
item epoch worker least bytes = do
  seq ← rising 8 2 (2 ^ 40 - 2) least bytes bytes
  index ← within 4 1 REQUESTS seq.1
  end ← within 1 0 OPS index.1
  outs ← numbers OPS end.1
  writes ← writes (most_writes (end_of end.0)) outs.1
  Ok (
    record {
      stamp = record { epoch = epoch; seq = seq.0 };
      worker = worker;
      index = index.0;
      reply = record { outs = outs.0; end = end_of end.0 };
      writes = writes.0;
    },
    writes.1,
  )

-- the least seq after that of an item
abbrev pub seq_after : Item → ℕ
seq_after x = x.stamp.seq + 1

-- the items of a batch, behind how many they are, their epoch and their worker
unfoldable pub items : (bytes : List ℕ) → Result (List Item × List ℕ) Fault
items bytes = do
  count ← within 1 1 BATCH_ITEMS bytes
  epoch ← within 4 1 (2 ^ 20 - 1) count.1
  worker ← within 1 1 WORKERS epoch.1
  series (item epoch.0 worker.0) seq_after count.0 0 worker.1

-- a mark whose seq is from low to high
unfoldable pub mark : (low high : ℕ) → (bytes : List ℕ) → Result (Stamp × List ℕ) Fault
mark low high bytes = do
  epoch ← within 4 1 (2 ^ 20 - 1) bytes
  seq ← within 8 low high epoch.1
  Ok (record { epoch = epoch.0; seq = seq.0 }, seq.1)

-- what stands behind the first byte
abbrev pub fields : (kind : ℕ) → (bytes rest : List ℕ) → Result (Batch × List ℕ) Fault
fields kind bytes rest =
    if kind == 1 then items rest >>= (λ x. Ok (Items x.0, x.1))
    else (if kind == 2 then mark 2 (2 ^ 40 - 1) rest >>= (λ x. Ok (Idle x.0, x.1))
    else (if kind == 3 then mark 1 1 rest >>= (λ x. Ok (Opened x.0, x.1))
    else Err (fault_at bytes Kind)))

-- a batch of one of the three kinds
unfoldable pub batch : (bytes : List ℕ) → Result (Batch × List ℕ) Fault
batch [] = Err (fault_at [] Short)
batch (kind ∷ rest) = fields kind (kind ∷ rest) rest

-- the batch that bytes are, or the first fault from the left and its offset
abbrev pub read_batch : (bytes : List ℕ) → Result Batch (ℕ × Flaw)
read_batch bytes = with_offset bytes (whole batch bytes)
