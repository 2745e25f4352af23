-- What is true of the encoding of batches.
use Rattle.std.specs.Prelude.{◌≡◌, ℕ, ◌≤◌, List, length, Ok}
use Rattle.rl_base.specs.Numbers.{IsBytes}
use Rattle.rl_fields.specs.declared.limit.TheConstants.{BATCH_BYTES}
use Rattle.rl_txn.specs.declared.batch.Batch.{Batch}
use Rattle.rl_batch.specs.Encoding.{batch_bytes}
use Rattle.rl_batch.specs.Ranges.{BatchInRange, HasWords}
use Rattle.rl_batch.specs.Reading.{read_batch}

-- what encodes a batch is read as that batch
abbrev pub BatchesReadBack : Type 0
BatchesReadBack = (b : Batch) → BatchInRange b → HasWords b → read_batch (batch_bytes b) ≡ Ok b

-- what is read as a batch is its encoding, and the batch is in range
abbrev pub OnlyEncodingsAreRead : Type 0
OnlyEncodingsAreRead = (bytes : List ℕ) (b : Batch) → IsBytes bytes → read_batch bytes ≡ Ok b
    → (bytes ≡ batch_bytes b) × BatchInRange b

-- an encoding has some bytes, and no more than a batch may have
abbrev pub EncodingsAreShort : Type 0
EncodingsAreShort = (b : Batch) → BatchInRange b → (1 ≤ length (batch_bytes b)) × (length (batch_bytes b) ≤ BATCH_BYTES)
