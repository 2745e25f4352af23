-- What is true of the histories of all families.
use Rattle.std.specs.Prelude.{◌≡◌, ◌⊎◌, ℕ, List, [], Bool, ◌&&◌, ◌||◌, ◌==◌, nat_lt, nat_le, filter}
use Rattle.rl_base.specs.Lists.{IsPrefix}
use Rattle.rl_base.specs.declared.stamp.Stamp.{Stamp}
use Rattle.rl_value.specs.Rows.{Rows}
use Rattle.rl_value.specs.Tables.{Table}
use Rattle.rl_txn.specs.declared.op.Op.{Op}
use Rattle.rl_txn.specs.declared.batch.Batch.{Batch}
use Rattle.rl_families.specs.Families.{IsInside, AllRise, history, watermark}
use Rattle.rl_families.specs.Leaders.{Leaders, AreLeaders, ArePrefixesOfLeaders, ExtendsOpening, logs_of_streams}
use Rattle.rl_families.specs.LeadersLogs.{LogsOfLeaders, AreSerialLeaders, IsSerialHistory}

-- a stamp is at most a watermark
abbrev pub is_up_to_watermark : ℕ × ℕ → Stamp → Bool
is_up_to_watermark mark s = nat_lt s.epoch mark.0 || ((s.epoch == mark.0) && nat_le s.seq mark.1)

-- for each family and each larger one along whose logs the stamps rise
abbrev pub ForNested : ((family larger : List (List Batch)) → Type 0) → Type 0
ForNested P = (family larger : List (List Batch)) → IsInside family larger → AllRise larger
    → P family larger

-- histories nest: what a family decides, every larger family begins with
abbrev pub HistoriesNest : Type 0
HistoriesNest = ForNested (λ family larger. IsPrefix (history family) (history larger))

-- and it is what the larger family decides up to the watermark of the smaller one
abbrev pub WatermarkCuts : Type 0
WatermarkCuts = ForNested (λ family larger.
    history family ≡ filter (λ x. is_up_to_watermark (watermark family) x.stamp) (history larger))

-- for all leaders, and logs of streams 1 to n that are prefixes of theirs
abbrev pub ForLeaders : ((l : Leaders) (n : ℕ) (log : ℕ → List Batch) → Type 0) → Type 0
ForLeaders P = (l : Leaders) (n : ℕ) → AreLeaders l n
    → (log : ℕ → List Batch) → ArePrefixesOfLeaders l n log → P l n log

-- the history of prefixes of leaders' logs is empty, or an opening list and what its epoch decided
-- first
abbrev pub HistoriesGoOn : Type 0
HistoriesGoOn = ForLeaders (λ l n log.
    (history (logs_of_streams n log) ≡ []) ⊎ ExtendsOpening l n log)

-- what such logs have
abbrev pub LeadersLogsRise : Type 0
LeadersLogsRise = ForLeaders (λ l n log. LogsOfLeaders l n log)

-- where what each epoch decided is serial behind its opening list, so is the history
abbrev pub HistoriesAreSerial : Type 0
HistoriesAreSerial = (tables : List Table) (lists : List (List (List Op))) (opening : Rows)
    → ForLeaders (λ l n log. AreSerialLeaders tables lists opening l n
    → IsSerialHistory tables lists opening (history (logs_of_streams n log)))
