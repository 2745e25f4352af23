-- What the private calls say of records and seats.
use Rattle.std.specs.Prelude.{◌≡◌, ℕ, ◌+◌, ◌*◌, ◌%◌, ◌^◌, ◌<◌, ◌≤◌, List, [], length, slice_index, sum, take, All, Contains, Some}
use Rattle.atomic_table.specs.Seated.{TableId}
use Rattle.rl_base.specs.Words.{stamp_in}
use Rattle.rl_value.specs.Cells.{cells_of}
use Rattle.rl_shared_replay.specs.declared.rule.Start.{Start}
use Rattle.rl_shared_replay.specs.declared.update.Update.{Update}
use Rattle.rl_shared_replay.specs.declared.view.Version.{Version}
use Rattle.rl_shared_replay.specs.declared.view.View.{View}
use Rattle.rl_tables.specs.Numbers.{record_of}
use Rattle.rl_txn.specs.declared.item.Item.{Item}
use Rattle.rl_txn.specs.declared.write.Write.{Write}
use Rattle.rl_shared_replay.specs.Start.{Made, plan_in, item_versions}
use Rattle.rl_shared_replay.specs.Views.{Settled}
use Rattle.rl_shared_replay.specs.Rule.{Plan}

-- the words of all records: their table, and what the replay starts from
pub record RecordsOf : Type 0 where
  pub table : TableId
  pub made : Made

-- a seat: its table, and its view
pub record SeatOf : Type 0 where
  pub table : TableId
  pub view : View

-- what is kept beside the words
pub record RecordsFit (table : TableId) (key : Start) (kept_columns kept_sizes : List ℕ) : Type 0 where
  pub columns : key.columns.items ≡ kept_columns
  pub sizes : key.layout ≡ kept_sizes
  pub words : table.words ≡ 1 + 6 * length kept_columns
  pub no_slots : table.slots ≡ 0
  pub records : length kept_columns ≤ 65536
  pub counted : length kept_columns ≡ sum kept_sizes
  -- each record has one to four columns
  pub some : (r : ℕ) → r < length kept_columns → 0 < slice_index kept_columns r
  pub few : (r : ℕ) → slice_index kept_columns r ≤ 4

-- the version that a write makes
abbrev pub version_in : (update : Update) → Version
version_in update = record { rec = update.rec; stamp = update.stamp; row = update.row }

-- the write is one of the parts, under a packed stamp, and its row has the columns of its record
pub record IsPlanned (made : Made) (update : Update) : Type 0 where
  pub among : Contains (plan_in made).versions (version_in update)
  pub small : update.stamp < 2 ^ 60
  pub wide : length (cells_of (slice_index made.columns update.rec) update.row) ≡ 1 + slice_index made.columns update.rec

-- a write is at a key that is there, and its row has the columns of its record
pub record WriteFitsWords (made : Made) (w : Write) : Type 0 where
  pub table : w.table < length made.sizes
  pub key : w.key < slice_index made.sizes w.table
  pub wide : (let columns = slice_index made.columns (record_of made.sizes w.table w.key) in length (cells_of columns w.row) ≡ 1 + columns)

-- an item is one of the parts, under a stamp that can be packed
pub record ItemPlanned (made : Made) (x : Item) : Type 0 where
  pub epoch : x.stamp.epoch < 2 ^ 20
  pub seq : x.stamp.seq < 2 ^ 40
  pub writes : All (WriteFitsWords made) x.writes
  pub among : (v : Version) → Contains (item_versions made.sizes x) v
      → Contains (plan_in made).versions v

-- the seat holds the record, has stored nothing, and the word was this
pub record IsHolding (rec word : ℕ) (v : View) : Type 0 where
  pub held : v.held ≡ Some (record { rec = rec; old = stamp_in word; stored = [] })
  pub free : word % 2 ≡ 0

-- the seat holds the record of a version whose stamp is above the record's, and has stored its
-- first k cells
pub record IsStoring (made : Made) (x : Version) (k : ℕ) (v : View) : Type 0 where
  pub old : ℕ
  pub below : old < x.stamp
  pub held : v.held ≡ Some (record { rec = x.rec; old = old; stored = take k (cells_of (slice_index made.columns x.rec) x.row) })

-- what was settled stays so
abbrev pub KeepsSettled : (v w : View) → Type 0
KeepsSettled v w = (x : Version) → Settled v x → Settled w x

-- each of these versions is settled
abbrev pub AllSettled : (v : View) (xs : List Version) → Type 0
AllSettled v xs = (x : Version) → Contains xs x → Settled v x
