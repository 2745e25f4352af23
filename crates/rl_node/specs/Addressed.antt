-- Messages that differ in their receiver alone. No public contract cites it.
use Rattle.std.specs.Prelude.{ℕ}
use Rattle.rl_msg.specs.declared.msg.Msg.{Msg}
use Rattle.rl_msg.specs.declared.msg.Msg.TheVariants.{Prepare, Promise, Sync, Accept, Ack, Known}

-- a message with another receiver
abbrev pub addressed : Msg → (to : ℕ) → Msg
addressed (Prepare from to epoch) other = Prepare from other epoch
addressed (Promise from to epoch ballots logs) other = Promise from other epoch ballots logs
addressed (Sync from to epoch stream log) other = Sync from other epoch stream log
addressed (Accept from to epoch stream slot batch) other = Accept from other epoch stream slot batch
addressed (Ack from to epoch stream len) other = Ack from other epoch stream len
addressed (Known from to epoch stream len) other = Known from other epoch stream len
