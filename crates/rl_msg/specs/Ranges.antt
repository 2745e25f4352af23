-- The messages that have an encoding.
use Rattle.std.specs.Prelude.{◌≡◌, ℕ, ◌≤◌, ◌^◌, ◌-◌, List, length, All}
use Rattle.rl_base.specs.declared.limit.TheConstants.{NODES, WORKERS, SLOTS}
use Rattle.rl_fields.specs.declared.limit.TheConstants.{BATCH_BYTES}
use Rattle.rl_msg.specs.declared.msg.Msg.{Msg}
use Rattle.rl_msg.specs.declared.msg.Msg.TheVariants.{Prepare, Promise, Sync, Accept, Ack, Known}

-- nodes are numbered from 1, and epochs from 1 to 2 ^ 20 - 1
pub record HeadInRange (from to epoch : ℕ) : Type 0 where
  pub from_low : 1 ≤ from
  pub from_high : from ≤ NODES
  pub to_low : 1 ≤ to
  pub to_high : to ≤ NODES
  pub epoch_low : 1 ≤ epoch
  pub epoch_high : epoch ≤ 2 ^ 20 - 1

-- a batch has some bytes, and no more than a batch may have
abbrev pub EmbeddedBatchInRange : List ℕ → Type 0
EmbeddedBatchInRange batch = (1 ≤ length batch) × (length batch ≤ BATCH_BYTES)

-- a log has a batch for each of its first slots
pub record LogInRange (log : List (List ℕ)) : Type 0 where
  pub few : length log ≤ SLOTS
  pub each : All EmbeddedBatchInRange log

-- streams are numbered from 1, one for each worker
abbrev pub StreamInRange : ℕ → Type 0
StreamInRange stream = (1 ≤ stream) × (stream ≤ WORKERS)

-- one ballot and one log for each of some streams
pub record StreamsInRange (ballots : List ℕ) (logs : List (List (List ℕ))) : Type 0 where
  pub some : 1 ≤ length ballots
  pub few : length ballots ≤ WORKERS
  pub as_many : length logs ≡ length ballots
  pub each_ballot : All (λ ballot. ballot ≤ 2 ^ 20 - 1) ballots
  pub each_log : All LogInRange logs

-- each field is in its range
abbrev pub MsgInRange : Msg → Type 0
MsgInRange (Prepare from to epoch) = HeadInRange from to epoch
MsgInRange (Promise from to epoch ballots logs) = HeadInRange from to epoch × StreamsInRange ballots logs
MsgInRange (Sync from to epoch stream log) = HeadInRange from to epoch × StreamInRange stream × LogInRange log
MsgInRange (Accept from to epoch stream slot batch) =
    HeadInRange from to epoch × StreamInRange stream × (slot ≤ SLOTS - 1) × EmbeddedBatchInRange batch
MsgInRange (Ack from to epoch stream len) = HeadInRange from to epoch × StreamInRange stream × (len ≤ SLOTS)
MsgInRange (Known from to epoch stream len) = HeadInRange from to epoch × StreamInRange stream × (len ≤ SLOTS)
