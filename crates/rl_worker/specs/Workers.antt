-- What a worker stands for among the phases of a core, what it keeps from step to step, and what a step does.
use Rattle.std.specs.Prelude.{◌≡◌, ℕ, ◌+◌, ◌*◌, ◌^◌, ◌<◌, ◌≤◌, List, ◌++◌, length, map, sum, take, drop, set, Bool, true, false, is_some, if◌then◌else◌, Option, Some, None, IfSome, IsSomeAnd, option_to_list, All, Contains}
use Rattle.std.specs.Option.{option_map}
use Rattle.rl_base.specs.Stamps.{packed}
use Rattle.rl_value.specs.Tables.{Table, columns_of}
use Rattle.rl_tables.specs.Numbers.{sizes_of, place_of}
use Rattle.rl_txn.specs.Eval.{IsEval, Awaits, awaited, rows_given, reads_room}
use Rattle.rl_txn.specs.Fits.{WriteFits}
use Rattle.rl_txn.specs.Serial.{request}
use Rattle.rl_txn.specs.declared.op.Op.{Op}
use Rattle.rl_txn.specs.declared.item.Item.{Item}
use Rattle.rl_worker.specs.declared.act.Act.{Act}
use Rattle.rl_worker.specs.declared.act.Act.TheVariants as act
use Rattle.rl_worker.specs.declared.act.Moved.{Moved}
use Rattle.rl_worker.specs.declared.words.Words.{Words}
use Rattle.rl_worker.specs.declared.reading.Reading.{Reading}
use Rattle.rl_worker.specs.declared.commit.Commit.{Commit}
use Rattle.rl_worker.specs.declared.commit.Part.{Part}
use Rattle.rl_worker.specs.declared.commit.Part.TheVariants as part
use Rattle.rl_worker.specs.declared.worker.Stage.{Stage}
use Rattle.rl_worker.specs.declared.worker.Stage.TheVariants as stage
use Rattle.rl_worker.specs.declared.worker.Worker.{Worker}
use Rattle.rl_worker.specs.Phases.{Read, Install, Rec, Phase, Rest, Wanting, Loading, Locking, Validating, Storing, Refusing, Setting}
use Rattle.rl_worker.specs.Items.{CoreItem, insert_by_stamp}
use Rattle.rl_worker.specs.Acts.{CoreRefusal, Core, target, phase_of, is_done, begin}
use Rattle.rl_worker.specs.Opening.{install_of, overlay_of, item_seen, items_seen}
use Rattle.rl_worker.specs.Told.{found, refused, act_of}

-- ---- what a worker stands for ----
-- the phase of an attempt that reads
abbrev pub reading_phase : (q : ℕ) → Reading → Phase
reading_phase q r =
    if r.is_open then Loading q r.reads.0 r.next.rec r.next.seen r.next.row else Wanting q r.reads.0 r.next.rec

-- what a commit writes, as it is installed
abbrev pub installs : List Table → Commit → List Install
installs tables c = map (install_of tables) c.item.writes

-- a decided item as the core has it
abbrev pub core_item : List Table → Item → CoreItem
core_item tables x = record {
  stamp = packed x.stamp;
  worker = x.worker;
  index = x.index;
  answer = (x.reply, x.writes);
  writes = map (install_of tables) x.writes;
}

-- the phase of a commit, by its part
abbrev pub part_phase : List Table → Commit → Part → Phase
part_phase tables c (part.Locking held) =
    Locking c.item.index c.reads.0 (c.item.reply, c.item.writes)
    (take held (installs tables c)) (drop held (installs tables c))
part_phase tables c (part.Validating done) =
    Validating c.item.index (packed c.item.stamp) (take done c.reads.0) (drop done c.reads.0)
    (c.item.reply, c.item.writes) (installs tables c)
part_phase tables c (part.Storing closed stored) =
    Storing (core_item tables c.item) stored (drop closed (installs tables c))
part_phase tables c (part.Refusing closed held) =
    Refusing c.item.index (drop closed (take held (installs tables c)))

-- the phase of a commit
abbrev pub commit_phase : List Table → Commit → Phase
commit_phase tables c = part_phase tables c c.part

-- the phase of a worker at a request, by its stage
abbrev pub stage_phase : List Table → (q : ℕ) → Stage → Phase
stage_phase tables q stage.Resting = Rest q
stage_phase tables q (stage.Reading r) = reading_phase q r
stage_phase tables q (stage.Committing c) = commit_phase tables c

-- the phase of a worker
abbrev pub phase_of_worker : List Table → Worker → Phase
phase_of_worker tables w = stage_phase tables w.index w.stage

-- its number, from 1
abbrev pub number_of : Worker → ℕ
number_of w = w.number

-- the epoch of its stamps
abbrev pub epoch_of : Worker → ℕ
epoch_of w = w.epoch

-- the index of the request that it is at
abbrev pub next_of : Worker → ℕ
next_of w = w.index

-- a decided commit, which stores what it writes
abbrev pub is_storing : Part → Bool
is_storing (part.Storing closed stored) = true
is_storing p = false

-- the decided item of an attempt that has not ended, by the worker's stage
abbrev pub decided_at : Stage → Option Item
decided_at (stage.Committing c) = if is_storing c.part then Some c.item else None
decided_at st = None

-- the decided item of an attempt that has not ended
abbrev pub decided_item : Worker → Option Item
decided_item w = decided_at w.stage

-- ---- what stays true of records and workers ----
-- a record has presence and its table's columns, and its stamp fits a word
pub record RecordFits (tables : List Table) (r : ℕ) (x : Rec) : Type 0 where
  pub cells : length x.cells ≡ columns_of tables (place_of (sizes_of tables) r).0 + 1
  pub some : 2 ≤ length x.cells
  pub stamp : x.stamp < 2 ^ 60

-- there is one record for each key
pub record RecordsFit (tables : List Table) (recs : List Rec) : Type 0 where
  pub count : length recs ≡ sum (sizes_of tables)
  pub each : (r : ℕ) → r < length recs → RecordFits tables r (found recs r)

-- a read is of a record that is there, and its stamp fits a word
abbrev pub ReadFits : List Table → Read → Type 0
ReadFits tables x = (x.rec < sum (sizes_of tables)) × (x.seen < 2 ^ 60)

-- the evaluation waits for the record that is loaded
pub record IsReading (tables : List Table) (txn : List Op) (r : Reading) : Type 0 where
  pub eval : IsEval tables txn r.eval
  pub known : rows_given r.eval ≡ overlay_of tables r.reads.0
  pub room : reads_room r.eval ≤ r.reads.1
  pub reads : All (ReadFits tables) r.reads.0
  pub awaits : Awaits r.eval
  pub place : awaited r.eval ≡ place_of (sizes_of tables) r.next.rec
  pub next : ReadFits tables r.next
  pub cells : length r.next.row ≤ columns_of tables (place_of (sizes_of tables) r.next.rec).0 + 1

-- a part counts no more than there is
abbrev pub PartFits : Commit → Part → Type 0
PartFits c (part.Locking held) = held ≤ length c.item.writes
PartFits c (part.Validating done) = done ≤ length c.reads.0
PartFits c (part.Storing closed stored) = closed ≤ length c.item.writes
PartFits c (part.Refusing closed held) = (closed ≤ held) × (held ≤ length c.item.writes)

-- what a commit reads and writes is there, and its stamp is in range
pub record CommitFits (tables : List Table) (c : Commit) : Type 0 where
  pub reads : All (ReadFits tables) c.reads.0
  pub writes : All (WriteFits tables) c.item.writes
  pub epoch : c.item.stamp.epoch < 2 ^ 20
  pub seq : c.item.stamp.seq < 2 ^ 40
  pub part : PartFits c c.part

-- something is left to do in its part
abbrev pub HasMore : Commit → Part → Type 0
HasMore c (part.Locking held) = Unit {0}
HasMore c (part.Validating done) = done < length c.reads.0
HasMore c (part.Storing closed stored) = closed < length c.item.writes
HasMore c (part.Refusing closed held) = closed < held

-- a commit of the attempt that a worker is in, with something left to do
abbrev pub IsCommitOf : List Table → Worker → Commit → Type 0
IsCommitOf tables w c =
    CommitFits tables c × (c.item.worker ≡ w.number) × (c.item.index ≡ w.index)
    × (c.item.stamp.epoch ≡ w.epoch) × HasMore c c.part

-- what the stage of a worker keeps in an attempt of a request
abbrev pub StageFits : List Table → List Op → Worker → Stage → Type 0
StageFits tables txn w stage.Resting = Unit {0}
StageFits tables txn w (stage.Reading r) = IsReading tables txn r
StageFits tables txn w (stage.Committing c) = IsCommitOf tables w c

-- at rest
abbrev pub is_resting : Stage → Bool
is_resting stage.Resting = true
is_resting st = false

-- a worker of the lists: where it is in an attempt, its request is there
pub record WorkerFits (tables : List Table) (lists : List (List (List Op))) (w : Worker) : Type 0 where
  pub first : 1 ≤ w.number
  pub list : w.number ≤ length lists
  pub epoch : w.epoch < 2 ^ 20
  pub stage : is_resting w.stage ≡ false
      → IsSomeAnd (request lists w.number w.index) (λ txn. StageFits tables txn w w.stage)

-- ---- what a worker and the records stand for in the core, and what a step does there ----
-- the packed stamp that comes next
abbrev pub stamp_next : (epoch : ℕ) → Words → ℕ
stamp_next epoch words = epoch * 2 ^ 40 + words.next

-- the core has these records, this worker's phase, and the next stamp
pub record Stands (tables : List Table) (w : Worker) (words : Words) (core : Core) : Type 0 where
  pub recs : core.recs ≡ words.records.items
  pub next : core.next ≡ stamp_next w.epoch words
  pub there : w.number < length core.workers
  pub phase : phase_of core w.number ≡ phase_of_worker tables w

-- an open decided item of a worker is one of the core's, as it is seen
abbrev pub HasDecided : Core → Worker → Type 0
HasDecided core w = IfSome (decided_item w) (Contains (items_seen (epoch_of w) core.decided))

-- the first of two that is there
abbrev pub either : Option Item → Option Item → Option Item
either None second = second
either (Some x) second = Some x

-- the item that a step decided, if it decided one
abbrev pub newly_decided : (old new : Worker) → Moved → Option Item
newly_decided old new told = if is_some (decided_item old) then None else either told.ended (decided_item new)

-- an item more, or none
abbrev pub with_item : Option CoreItem → List CoreItem → List CoreItem
with_item None xs = xs
with_item (Some x) xs = insert_by_stamp x xs

-- a worker made an item under a stamp
abbrev pub stamp_made : CoreItem → ℕ × ℕ
stamp_made x = (x.worker, x.stamp)

-- an item of a worker's request and of a stamp of its epoch, which installs what its answer writes
pub record IsItemOf (tables : List Table) (w : Worker) (x : CoreItem) : Type 0 where
  pub worker : x.worker ≡ number_of w
  pub index : x.index ≡ next_of w
  pub epoch : epoch_of w * 2 ^ 40 ≤ x.stamp
  pub writes : x.writes ≡ map (install_of tables) x.answer.1

-- a step of the code is a step of the core: what stands after it, and what it tells
pub record Steps (tables : List Table) (old new : Worker) (words : Words) (told : Moved) (core core' : Core) : Type 0 where
  pub stands : Stands tables new words core'
  pub number : number_of new ≡ number_of old
  pub epoch : epoch_of new ≡ epoch_of old
  pub index : next_of new ≡ next_of old + (if is_some told.ended then 1 else 0)
  pub others : core'.workers ≡ set core.workers (number_of old) (phase_of_worker tables new)
  -- the core decided an item of this worker's request or none, and it is what the code decided, as it is seen
  pub item : Option CoreItem
  pub decided : core'.decided ≡ with_item item core.decided
  pub made : core'.made ≡ option_to_list (option_map stamp_made item) ++ core.made
  pub of_item : IfSome item (IsItemOf tables old)
  pub seen : newly_decided old new told ≡ option_map (item_seen (epoch_of old)) item
  pub kept : IfSome (decided_item old) (λ x. either told.ended (decided_item new) ≡ Some x)
  pub ended : IfSome told.ended (λ x. decided_item new ≡ None)
  -- the core ended an item or none, and it is what the code ended, as it is seen
  pub over : Option CoreItem
  pub core_ended : core'.ended ≡ option_to_list over ++ core.ended
  pub ended_seen : told.ended ≡ option_map (item_seen (epoch_of old)) over
  pub has_decided : HasDecided core old → HasDecided core' new
  -- the core refused an attempt of this worker's request or none, and it is what the code refused, as it is told
  pub refusal : Option CoreRefusal
  pub refusals : core'.refusals ≡ option_to_list refusal ++ core.refusals
  pub of_refusal : IfSome refusal (λ f. (f.worker ≡ number_of old) × (f.index ≡ next_of old))
  pub refused : told.refused ≡ option_map refused refusal

-- the act that a step of worker w makes, where n is the next seq: none at rest with no request left
abbrev pub act_of_step : Setting → (n : ℕ) → Core → (w : ℕ) → Act
act_of_step s n core w =
    let phase = phase_of (begin s core w) w in
    if is_done s w (phase_of core w) then act.Rest else act_of n phase (found core.recs (target phase))
