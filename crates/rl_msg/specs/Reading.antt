-- What bytes that should be a message say from left to right, or the first fault.
use Rattle.std.specs.Prelude.{ℕ, ◌-◌, ◌^◌, ◌&&◌, ◌==◌, nat_le, List, [], ◌∷◌, map, Result, Ok, Err, if◌then◌else◌}
use Rattle.rl_base.specs.Results.{◌>>=◌}
use Rattle.rl_base.specs.declared.flaw.Flaw.{Flaw}
use Rattle.rl_base.specs.declared.flaw.Flaw.TheVariants.{Kind, Short}
use Rattle.rl_base.specs.declared.limit.TheConstants.{NODES, WORKERS, SLOTS}
use Rattle.rl_fields.specs.declared.fault.Fault.{Fault}
use Rattle.rl_fields.specs.Faults.{fault_at, with_offset}
use Rattle.rl_fields.specs.Fields.{within, string, several, whole}
use Rattle.rl_msg.specs.declared.head.Head.{Head}
use Rattle.rl_fields.specs.declared.limit.TheConstants.{BATCH_BYTES}
use Rattle.rl_msg.specs.declared.msg.Msg.{Msg}
use Rattle.rl_msg.specs.declared.msg.Msg.TheVariants.{Prepare, Promise, Sync, Accept, Ack, Known}

-- sender, receiver and epoch
unfoldable pub head : (bytes : List ℕ) → Result (Head × List ℕ) Fault
head bytes = do
  from ← within 1 1 NODES bytes
  to ← within 1 1 NODES from.1
  epoch ← within 4 1 (2 ^ 20 - 1) to.1
  Ok (record { from = from.0; to = to.0; epoch = epoch.0 }, epoch.1)

-- the bytes of a batch, behind how many they are
unfoldable pub embedded_batch : (bytes : List ℕ) → Result (List ℕ × List ℕ) Fault
embedded_batch bytes = do
  len ← within 4 1 BATCH_BYTES bytes
  string len.0 len.1

-- the batches of a log, behind how many they are
unfoldable pub log : (bytes : List ℕ) → Result (List (List ℕ) × List ℕ) Fault
log bytes = do
  count ← within 4 0 SLOTS bytes
  several embedded_batch count.0 count.1

-- a stream's ballot and its log
unfoldable pub stream : (bytes : List ℕ) → Result ((ℕ × List (List ℕ)) × List ℕ) Fault
stream bytes = do
  ballot ← within 4 0 (2 ^ 20 - 1) bytes
  log ← log ballot.1
  Ok ((ballot.0, log.0), log.1)

-- some streams, behind how many they are
unfoldable pub streams : (bytes : List ℕ) → Result (List (ℕ × List (List ℕ)) × List ℕ) Fault
streams bytes = do
  count ← within 1 1 WORKERS bytes
  several stream count.0 count.1

-- a stream, and a slot or a length up to the greatest
unfoldable pub stream_and_slot : (greatest : ℕ) → (bytes : List ℕ) → Result ((ℕ × ℕ) × List ℕ) Fault
stream_and_slot greatest bytes = do
  stream ← within 1 1 WORKERS bytes
  slot ← within 4 0 greatest stream.1
  Ok ((stream.0, slot.0), slot.1)

-- ---- what each kind has behind its head ----

-- the streams of a Promise
unfoldable pub promise : Head → (bytes : List ℕ) → Result (Msg × List ℕ) Fault
promise h bytes = do
  all ← streams bytes
  Ok (Promise h.from h.to h.epoch (map (λ s. s.0) all.0) (map (λ s. s.1) all.0), all.1)

-- the stream and the log of a Sync
unfoldable pub sync : Head → (bytes : List ℕ) → Result (Msg × List ℕ) Fault
sync h bytes = do
  stream ← within 1 1 WORKERS bytes
  log ← log stream.1
  Ok (Sync h.from h.to h.epoch stream.0 log.0, log.1)

-- the stream, the slot and the batch of an Accept
unfoldable pub accept : Head → (bytes : List ℕ) → Result (Msg × List ℕ) Fault
accept h bytes = do
  at ← stream_and_slot (SLOTS - 1) bytes
  batch ← embedded_batch at.1
  Ok (Accept h.from h.to h.epoch at.0.0 at.0.1 batch.0, batch.1)

-- the stream and the length of an Ack
unfoldable pub ack : Head → (bytes : List ℕ) → Result (Msg × List ℕ) Fault
ack h bytes = do
  at ← stream_and_slot SLOTS bytes
  Ok (Ack h.from h.to h.epoch at.0.0 at.0.1, at.1)

-- the stream and the length of a Known
unfoldable pub known : Head → (bytes : List ℕ) → Result (Msg × List ℕ) Fault
known h bytes = do
  at ← stream_and_slot SLOTS bytes
  Ok (Known h.from h.to h.epoch at.0.0 at.0.1, at.1)

-- what stands behind the head of a message of one of the six kinds
abbrev pub fields : (kind : ℕ) → Head → (bytes : List ℕ) → Result (Msg × List ℕ) Fault
fields kind h bytes =
    if kind == 1 then Ok (Prepare h.from h.to h.epoch, bytes)
    else (if kind == 2 then promise h bytes
    else (if kind == 3 then sync h bytes
    else (if kind == 4 then accept h bytes
    else (if kind == 5 then ack h bytes
    else known h bytes))))

-- ---- a message ----

-- a message of one of the six kinds
unfoldable pub msg : (bytes : List ℕ) → Result (Msg × List ℕ) Fault
msg [] = Err (fault_at [] Short)
msg (kind ∷ rest) =
    if nat_le 1 kind && nat_le kind 6 then head rest >>= (λ h. fields kind h.0 h.1)
    else Err (fault_at (kind ∷ rest) Kind)

-- the message that bytes are, or the first fault from the left and its offset
abbrev pub read_msg : (bytes : List ℕ) → Result Msg (ℕ × Flaw)
read_msg bytes = with_offset bytes (whole msg bytes)
