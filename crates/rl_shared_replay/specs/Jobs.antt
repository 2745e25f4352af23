-- What a thread is given, and what it gives back.
use Rattle.std.specs.Prelude.{◌≡◌, ℕ, ◌<◌, List, length, map, slice_index_or, All, None}
use Rattle.rl_txn.specs.declared.item.Item.{Item}
use Rattle.rl_shared_replay.specs.declared.view.Version.{Version}
use Rattle.rl_shared_replay.specs.declared.view.View.{View}
use Rattle.rl_shared_replay.specs.Views.{Settled}
use Rattle.rl_shared_replay.specs.declared.work.Job.{Job}
use Rattle.rl_shared_replay.specs.Calls.{RecordsOf, SeatOf, ItemPlanned, AllSettled}
use Rattle.rl_shared_replay.specs.Start.{versions_of}

-- a seat that holds nothing, and items of the parts
pub record IsReady (records : RecordsOf) (job : Job) : Type 0 where
  pub table : job.seat.table ≡ records.table
  pub free : job.seat.view.held ≡ None
  pub items : All (ItemPlanned records.made) job.items

-- the seat holds nothing, and each write of the items is settled
pub record IsDone (records : RecordsOf) (job : Job) (seat : SeatOf) : Type 0 where
  pub table : seat.table ≡ records.table
  pub free : seat.view.held ≡ None
  pub settled : AllSettled seat.view (versions_of records.made.sizes job.items)

-- a job for each part, with its items
pub record AllReady (records : RecordsOf) (parts : List (List Item)) (jobs : List Job) : Type 0 where
  pub ready : All (IsReady records) jobs
  pub items : map (λ (job : Job). job.items) jobs ≡ parts

-- a seat for each job, which is done
pub record AllDone (records : RecordsOf) (jobs : List Job) (seats : List SeatOf) : Type 0 where
  pub tables : All (λ (s : SeatOf). s.table ≡ records.table) seats
  pub free : All (λ (s : SeatOf). s.view.held ≡ None) seats
  pub long : length seats ≡ length jobs
  pub settled : (k : ℕ) (job : Job) (s : SeatOf) → k < length jobs
      → AllSettled (slice_index_or seats k s).view (versions_of records.made.sizes (slice_index_or jobs k job).items)

-- the view has seen what each seat has
abbrev pub SeesAll : (v : View) (seats : List SeatOf) → Type 0
SeesAll v seats = All (λ (s : SeatOf). (x : Version) → Settled s.view x → Settled v x) seats
