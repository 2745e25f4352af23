-- The one encoding of each message, field by field. Numbers have one or four bytes, the highest first.
use Rattle.std.specs.Prelude.{ℕ, List, ◌∷◌, ◌++◌, length}
use Rattle.std.specs.List.{flat_map, zip}
use Rattle.byteorder.specs.Endian.{big_bytes}
use Rattle.rl_msg.specs.declared.msg.Msg.{Msg}
use Rattle.rl_msg.specs.declared.msg.Msg.TheVariants.{Prepare, Promise, Sync, Accept, Ack, Known}

-- sender, receiver and epoch
abbrev pub head_bytes : (from to epoch : ℕ) → List ℕ
head_bytes from to epoch = big_bytes 1 from ++ big_bytes 1 to ++ big_bytes 4 epoch

-- how many bytes a batch has, and these
abbrev pub embedded_batch_bytes : List ℕ → List ℕ
embedded_batch_bytes batch = big_bytes 4 (length batch) ++ batch

-- how many batches a log has, and each of them
abbrev pub log_bytes : List (List ℕ) → List ℕ
log_bytes log = big_bytes 4 (length log) ++ flat_map embedded_batch_bytes log

-- a stream's ballot and its log
abbrev pub stream_bytes : ℕ × List (List ℕ) → List ℕ
stream_bytes s = big_bytes 4 s.0 ++ log_bytes s.1

-- how many streams, and each of them
abbrev pub streams_bytes : List (ℕ × List (List ℕ)) → List ℕ
streams_bytes streams = big_bytes 1 (length streams) ++ flat_map stream_bytes streams

-- a stream, and the number of a slot or of batches
abbrev pub stream_and_slot_bytes : (stream slot : ℕ) → List ℕ
stream_and_slot_bytes stream slot = big_bytes 1 stream ++ big_bytes 4 slot

-- the kind, the head, and what the kind has behind it
abbrev pub msg_bytes : Msg → List ℕ
msg_bytes (Prepare from to epoch) = 1 ∷ head_bytes from to epoch
msg_bytes (Promise from to epoch ballots logs) = 2 ∷ (head_bytes from to epoch ++ streams_bytes (zip ballots logs))
msg_bytes (Sync from to epoch stream log) = 3 ∷ (head_bytes from to epoch ++ (big_bytes 1 stream ++ log_bytes log))
msg_bytes (Accept from to epoch stream slot batch) =
    4 ∷ (head_bytes from to epoch ++ (stream_and_slot_bytes stream slot ++ embedded_batch_bytes batch))
msg_bytes (Ack from to epoch stream len) = 5 ∷ (head_bytes from to epoch ++ stream_and_slot_bytes stream len)
msg_bytes (Known from to epoch stream len) = 6 ∷ (head_bytes from to epoch ++ stream_and_slot_bytes stream len)
