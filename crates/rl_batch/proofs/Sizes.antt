-- How many bytes the encoding of a batch has.
use Rattle.std.proofs.Common.{◌≡◌, ℕ, ◌+◌, ◌*◌, ◌≤◌, List, [], ◌∷◌, ◌++◌, length, Option, Some, None, Result, Ok, Err, refl, sym, subst, arith, length-append}
use Rattle.std.specs.Prelude.{IfOk, IfSome}
use Rattle.std.specs.List.{flat_map, AllByRecursion}
use Rattle.std.proofs.lemmas.List.Elements.{recursion_from_All}
use Rattle.byteorder.specs.Endian.{big_bytes}
use Rattle.byteorder.specs.Numbers.{length-bytes_high_first}
use Rattle.rl_base.specs.declared.memory.Memory.{Memory}
use Rattle.rl_base.specs.declared.stamp.Stamp.{Stamp}
use Rattle.rl_txn.specs.declared.write.End.{End}
use Rattle.rl_txn.specs.declared.write.End.TheVariants.{Done, Declined}
use Rattle.rl_txn.specs.declared.write.Write.{Write}
use Rattle.rl_txn.specs.declared.item.Item.{Item}
use Rattle.rl_txn.specs.declared.batch.Batch.{Batch}
use Rattle.rl_txn.specs.declared.batch.Batch.TheVariants.{Items, Idle, Opened}
use Rattle.rl_fields.specs.declared.limit.TheConstants.{BATCH_BYTES}
use Rattle.rl_batch.specs.Encoding.{numbers_bytes, columns_of_row, write_bytes, writes_bytes, end_number, item_bytes, items_epoch, items_worker, items_bytes, mark_bytes, batch_bytes}
use Rattle.rl_batch.specs.Ranges.{WriteInRange, ItemInRange, ItemsInRange, BatchInRange, most_writes}

-- a number has as many bytes as it is written with
number_size : (n x : ℕ) → length (big_bytes n x) ≡ n
number_size n x = length-bytes_high_first n x

eights_size : (xs : List ℕ) → length (flat_map (λ x. big_bytes 8 x) xs) ≡ 8 * length xs
eights_size [] = refl
eights_size (x ∷ xs) = omega (arith, length-append (big_bytes 8 x) (flat_map (λ y. big_bytes 8 y) xs), number_size 8 x, eights_size xs)

numbers_size : (xs : List ℕ) → length (numbers_bytes xs) ≡ 1 + 8 * length xs
numbers_size xs = omega (arith, length-append (big_bytes 1 (length xs)) (flat_map (λ x. big_bytes 8 x) xs), number_size 1 (length xs), eights_size xs)

columns_few : (row : Option (List ℕ)) → IfSome row (λ r. length r ≤ 4) → length (columns_of_row row) ≤ 4
columns_few None few = omega arith
columns_few (Some r) few = few

write_size : (w : Write) → WriteInRange w → length (write_bytes w) ≤ 38
write_size w range =
    let columns : List ℕ = columns_of_row w.row in
    omega (arith, length-append (big_bytes 1 w.table ++ big_bytes 4 w.key) (numbers_bytes columns), length-append (big_bytes 1 w.table) (big_bytes 4 w.key), number_size 1 w.table, number_size 4 w.key, numbers_size columns, columns_few w.row range.few_columns)

each_write_size : (ws : List Write) → AllByRecursion WriteInRange ws → length (flat_map write_bytes ws) ≤ 38 * length ws
each_write_size [] each = omega arith
each_write_size (w ∷ ws) each = omega (arith, length-append (write_bytes w) (flat_map write_bytes ws), write_size w each.0, each_write_size ws each.1)

writes_size : (ws : List Write) → AllByRecursion WriteInRange ws → length (writes_bytes ws) ≤ 1 + 38 * length ws
writes_size ws each = omega (arith, length-append (big_bytes 1 (length ws)) (flat_map write_bytes ws), number_size 1 (length ws), each_write_size ws each)

writes_few : (end : End) → most_writes end ≤ 64
writes_few Done = omega arith
writes_few (Declined op) = omega arith

-- an item has at most 64 outs of 8 bytes and 64 writes of 38
item_size : (x : Item) → ItemInRange x → length (item_bytes x) ≤ 2959
item_size x range =
    let head : List ℕ = big_bytes 8 x.stamp.seq ++ big_bytes 4 x.index in
    let ended : List ℕ = head ++ big_bytes 1 (end_number x.reply.end) in
    let out : List ℕ = ended ++ numbers_bytes x.reply.outs in
    omega (arith, length-append out (writes_bytes x.writes), length-append ended (numbers_bytes x.reply.outs), length-append head (big_bytes 1 (end_number x.reply.end)), length-append (big_bytes 8 x.stamp.seq) (big_bytes 4 x.index), number_size 8 x.stamp.seq, number_size 4 x.index, number_size 1 (end_number x.reply.end), numbers_size x.reply.outs, writes_size x.writes (recursion_from_All WriteInRange x.writes range.each_write), range.outs, range.writes, writes_few x.reply.end)

each_item_size : (xs : List Item) → AllByRecursion ItemInRange xs → length (flat_map item_bytes xs) ≤ 2959 * length xs
each_item_size [] each = omega arith
each_item_size (x ∷ xs) each = omega (arith, length-append (item_bytes x) (flat_map item_bytes xs), item_size x each.0, each_item_size xs each.1)

items_size : (xs : List Item) → ItemsInRange xs → length (items_bytes xs) ≤ 189382
items_size xs range =
    let one : List ℕ = big_bytes 1 (length xs) ++ big_bytes 4 (items_epoch xs) in
    let head : List ℕ = one ++ big_bytes 1 (items_worker xs) in
    omega (arith, length-append head (flat_map item_bytes xs), length-append one (big_bytes 1 (items_worker xs)), length-append (big_bytes 1 (length xs)) (big_bytes 4 (items_epoch xs)), number_size 1 (length xs), number_size 4 (items_epoch xs), number_size 1 (items_worker xs), each_item_size xs (recursion_from_All ItemInRange xs range.each), range.few)

mark_size : (s : Stamp) → length (mark_bytes s) ≡ 12
mark_size s = omega (arith, length-append (big_bytes 4 s.epoch) (big_bytes 8 s.seq), number_size 4 s.epoch, number_size 8 s.seq)

pub batch_size : (b : Batch) → BatchInRange b → (1 ≤ length (batch_bytes b)) × (length (batch_bytes b) ≤ BATCH_BYTES)
batch_size (Items xs) range = (omega arith, omega (arith, items_size xs range))
batch_size (Idle s) range = (omega arith, omega (arith, mark_size s))
batch_size (Opened s) range = (omega arith, omega (arith, mark_size s))

-- so is each answer that is the encoding
pub answer_size : (answer : Result (List ℕ) Memory) (b : Batch) → BatchInRange b → IfOk answer (λ bytes. bytes ≡ batch_bytes b) → IfOk answer (λ bytes. 1 ≤ length bytes) × IfOk answer (λ bytes. length bytes ≤ BATCH_BYTES)
answer_size (Ok bytes) b range e = subst (λ (bytes : List ℕ). (1 ≤ length bytes) × (length bytes ≤ BATCH_BYTES)) (sym e) (batch_size b range)
answer_size (Err e) b range said = (tt, tt)
