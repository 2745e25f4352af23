-- Batches as bytes, and the values that they encode. Acceptors, candidates, leaders and messages have bytes.
use Rattle.std.specs.Prelude.{ℕ, ◌-◌, ◌^◌, Bool, true, ◌&&◌, List, [], ◌∷◌, filter_map, Option, is_some}
use Rattle.std.specs.List.{list_all}
use Rattle.std.specs.Result.{result_ok}
use Rattle.rl_base.specs.declared.stamp.Stamp.{Stamp}
use Rattle.rl_base.specs.Order.{is_below}
use Rattle.rl_txn.specs.declared.batch.Batch.{Batch}
use Rattle.rl_txn.specs.declared.batch.Batch.TheVariants.{Idle}
use Rattle.rl_batch.specs.Reading.{read_batch}
use Rattle.rl_paxos.specs.Logs as bytes

-- the batch that some bytes encode, where they encode one
abbrev pub batch_of : bytes.Batch → Option Batch
batch_of batch = result_ok (read_batch batch)

-- the batches of a log
abbrev pub batches_of : bytes.Log → List Batch
batches_of log = filter_map batch_of log

-- whether each element of a log encodes a batch
abbrev pub are_batches : bytes.Log → Bool
are_batches log = list_all (λ batch. is_some (batch_of batch)) log

-- whether each stamp is below all that come after it
abbrev pub are_rising : List Stamp → Bool
are_rising [] = true
are_rising (s ∷ ss) = list_all (is_below s) ss && are_rising ss

-- the seq of the mark that ends a worker's part of an epoch
abbrev pub END_SEQ : ℕ
END_SEQ = 2 ^ 40 - 1

-- the idle mark of a stamp
abbrev pub idle_mark : (epoch seq : ℕ) → Batch
idle_mark epoch seq = Idle (record { epoch = epoch; seq = seq })
