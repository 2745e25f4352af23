-- What is true of every replica over a family.
use Rattle.std.specs.Prelude.{◌≡◌, ℕ, List, [], false, length, replicate, Option, IfSome}
use Rattle.rl_base.specs.Lists.{IsPrefix}
use Rattle.rl_base.specs.declared.bound.Bound.{Bound}
use Rattle.rl_value.specs.Rows.{Rows}
use Rattle.rl_txn.specs.declared.batch.Batch.{Batch}
use Rattle.rl_txn.specs.Serial.{rows_after}
use Rattle.rl_families.specs.Families.{bound_of, watermark, history, IsInside}
use Rattle.rl_families.specs.Streams.{log_at, IsStreamOf, IsStamped}
use Rattle.rl_replay.specs.Entries.{Entry}
use Rattle.rl_replay.specs.Replay.{Replaying, next_entry, play_answer, after_answer, HasFailed, IsSameSet, StampsIdentify}
use Rattle.rl_replay.specs.OverFamily.{IsReplicaOf}
use Rattle.rl_replay.specs.Standing.{StandingReplica, BeginsWithPlayed}
use Rattle.rl_replay.specs.declared.played.Played.{Played}

-- a replica that has played nothing of some logs
abbrev pub new_replica : (opening : Rows) → (family : List (List Batch)) → Replaying
new_replica opening family = record {
  applied = [];
  played = replicate (length family) 0;
  rows = opening;
  failed = false;
}

-- a new replica is one over any family with a log for each of its streams
abbrev pub ReplicasBegin : Type 0
ReplicasBegin = (opening : Rows) (family : List (List Batch))
    → IsReplicaOf opening family (new_replica opening family)

-- for each replica over a family
abbrev pub ForReplicas : (Rows → List (List Batch) → Replaying → Type 0) → Type 0
ForReplicas P = (opening : Rows) (family : List (List Batch)) (r : Replaying)
    → IsStamped family → IsReplicaOf opening family r → P opening family r

-- it is one over every larger family too
abbrev pub ReplicasGoOn : Type 0
ReplicasGoOn = ForReplicas (λ opening family r. (larger : List (List Batch))
    → IsInside family larger → IsStamped larger → IsReplicaOf opening larger r)

-- the bound is that of the next entry's epoch
abbrev pub IsBoundOf : (family : List (List Batch)) → (next : Option Entry) → Bound → Type 0
IsBoundOf family next bound = IfSome next (λ e. bound ≡ bound_of family e.stamp.epoch)

-- after the next entry of a stream
abbrev pub after_play : (family : List (List Batch)) → Replaying → (s : ℕ) → Bound → Replaying
after_play family r s bound =
    after_answer r s (next_entry r s (log_at family s))
    (play_answer (next_entry r s (log_at family s)) bound (watermark family).1)

-- it stays one where it plays the next entry of a stream with the family's bound and watermark
abbrev pub PlayKeepsReplica : Type 0
PlayKeepsReplica = ForReplicas (λ opening family r. (s : ℕ) → IsStreamOf family s
    → (bound : Bound) → IsBoundOf family (next_entry r s (log_at family s)) bound
    → IsReplicaOf opening family (after_play family r s bound))

-- and where it runs out of memory
abbrev pub MemoryKeepsReplica : Type 0
MemoryKeepsReplica = ForReplicas (λ opening family r. (p : Played) (next : Option Entry)
    (failed : Replaying) → HasFailed p next r failed → IsReplicaOf opening family failed)

-- no two different items of what it has applied and of the history have one stamp
abbrev pub AppliedIdentified : Type 0
AppliedIdentified = ForReplicas (λ opening family r. StampsIdentify r.applied (history family))

-- where it has applied the whole history, its rows are those after the history
abbrev pub RowsAtWatermark : Type 0
RowsAtWatermark = ForReplicas (λ opening family r. r.failed ≡ false
    → IsSameSet (history family) r.applied → r.rows ≡ rows_after opening (history family))

-- where a log begins with what a replica has played of a stream, so does every longer one
abbrev pub LongerLogsBegin : Type 0
LongerLogsBegin = (r : StandingReplica) (s : ℕ) (known longer : List Batch)
    → IsPrefix known longer → BeginsWithPlayed r s known → BeginsWithPlayed r s longer
