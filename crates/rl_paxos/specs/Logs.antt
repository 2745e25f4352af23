-- Logs of batches. A batch is bytes, whose meaning plays no part here.
use Rattle.std.specs.Prelude.{ℕ, List}

abbrev pub Batch : Type 0
Batch = List ℕ

-- one batch for each slot; slots are numbered from 0
abbrev pub Log : Type 0
Log = List Batch
