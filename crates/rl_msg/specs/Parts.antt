-- A message in parts, as it is encoded: its kind, its head, and what the kind has behind it.
use Rattle.std.specs.Prelude.{ℕ, List, [], ◌++◌}
use Rattle.std.specs.List.{zip}
use Rattle.byteorder.specs.Endian.{big_bytes}
use Rattle.rl_msg.specs.declared.head.Head.{Head}
use Rattle.rl_msg.specs.declared.msg.Msg.{Msg}
use Rattle.rl_msg.specs.declared.msg.Msg.TheVariants.{Prepare, Promise, Sync, Accept, Ack, Known}
use Rattle.rl_msg.specs.Encoding.{embedded_batch_bytes, log_bytes, streams_bytes, stream_and_slot_bytes}

-- the first byte
abbrev pub kind_of : Msg → ℕ
kind_of (Prepare from to epoch) = 1
kind_of (Promise from to epoch ballots logs) = 2
kind_of (Sync from to epoch stream log) = 3
kind_of (Accept from to epoch stream slot batch) = 4
kind_of (Ack from to epoch stream len) = 5
kind_of (Known from to epoch stream len) = 6

-- sender, receiver and epoch
abbrev pub head_of : Msg → Head
head_of (Prepare from to epoch) = record { from = from; to = to; epoch = epoch }
head_of (Promise from to epoch ballots logs) = record { from = from; to = to; epoch = epoch }
head_of (Sync from to epoch stream log) = record { from = from; to = to; epoch = epoch }
head_of (Accept from to epoch stream slot batch) = record { from = from; to = to; epoch = epoch }
head_of (Ack from to epoch stream len) = record { from = from; to = to; epoch = epoch }
head_of (Known from to epoch stream len) = record { from = from; to = to; epoch = epoch }

-- the bytes behind the head
abbrev pub fields_bytes : Msg → List ℕ
fields_bytes (Prepare from to epoch) = []
fields_bytes (Promise from to epoch ballots logs) = streams_bytes (zip ballots logs)
fields_bytes (Sync from to epoch stream log) = big_bytes 1 stream ++ log_bytes log
fields_bytes (Accept from to epoch stream slot batch) = stream_and_slot_bytes stream slot ++ embedded_batch_bytes batch
fields_bytes (Ack from to epoch stream len) = stream_and_slot_bytes stream len
fields_bytes (Known from to epoch stream len) = stream_and_slot_bytes stream len
