-- How many entries the batches of a log of bytes have.
use Rattle.std.proofs.Common.{◌≡◌, ◌*◌, ◌≤◌, [], ◌∷◌, length, Option, Some, None, refl, arith, length-append}
use Rattle.std.specs.List.{cons_option}
use Rattle.std.proofs.lemmas.List.{length-map}
use Rattle.rl_batch.specs.declared.item.TheConstants.{BATCH_ITEMS}
use Rattle.rl_paxos.specs.Logs as bytes
use Rattle.rl_replay.specs.Entries.{entries, entries_of, item_entry}
use Rattle.rl_families.specs.Logs.{items_in_batch}
use Rattle.rl_txn.specs.declared.batch.Batch.{Batch}
use Rattle.rl_txn.specs.declared.batch.Batch.TheVariants.{Items, Idle, Opened}
use Rattle.rl_nodes.specs.Batches.{batch_of, batches_of}
use Rattle.rl_node.proofs.Decoded.{AreRead, batch_of-read}

-- a batch that was read
batch_few : (b : Batch) → AreRead (items_in_batch b) → length (entries_of b) ≤ BATCH_ITEMS
batch_few (Items xs) r = let few = r.few in let same = length-map xs item_entry in omega (arith, few, same)
batch_few (Idle stamp) r = omega arith
batch_few (Opened stamp) r = omega arith

-- no more than so many for each batch
pub entries_few : (log : bytes.Log) → length (entries (batches_of log)) ≤ BATCH_ITEMS * length log
entries_few [] = omega arith
entries_few (x ∷ xs) = by_first (batch_of x) refl (entries_few xs)
  where
    by_first : (o : Option Batch) → batch_of x ≡ o → length (entries (batches_of xs)) ≤ BATCH_ITEMS * length xs
        → length (entries (cons_option o (batches_of xs))) ≤ BATCH_ITEMS * length (x ∷ xs)
    by_first None e more = omega (arith, more)
    by_first (Some b) e more =
        let few = batch_few b (batch_of-read x b e) in
        let sum = length-append (entries_of b) (entries (batches_of xs)) in
        omega (arith, more, few, sum)
