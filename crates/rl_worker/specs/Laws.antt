-- What is true of the workers of every open leader together.
use Rattle.std.specs.Prelude.{◌≡◌, ◌≢◌, ℕ, ◌<◌, List, [], ◌∷◌, ◌++◌, length, sum, true, false, ◌==◌, nat_le, if◌then◌else◌, option_to_list, All}
use Rattle.std.specs.List.{range_with_len}
use Rattle.std.specs.Option.{option_map}
use Rattle.rl_base.specs.Stamps.{packed}
use Rattle.rl_value.specs.Tables.{Table}
use Rattle.rl_tables.specs.Numbers.{sizes_of}
use Rattle.rl_txn.specs.Fits.{ItemWritesFit}
use Rattle.rl_txn.specs.Serial.{IsSerial, indexes_of}
use Rattle.rl_txn.specs.declared.item.Item.{Item}
use Rattle.rl_txn.specs.declared.op.Op.{Op}
use Rattle.rl_worker.specs.Phases.{Phase, Validating, Setting, other}
use Rattle.rl_worker.specs.Items.{CoreItem}
use Rattle.rl_worker.specs.Acts.{Cause, Locked, Changed, CoreRefusal, Core, Turn, phase_of, step, after_turns}
use Rattle.rl_worker.specs.Opening.{OpenLeader, CoreFits, core_after, first_of, item_seen, items_seen}
use Rattle.rl_worker.specs.Workers.{phase_of_worker, epoch_of, decided_item, WorkerFits, Steps}
use Rattle.rl_worker.specs.OneTurn.{IsOneStep, TellsNews, IsInRange, SeenInRange, items_by, ended_by, installing}
use Rattle.rl_worker.specs.Stamping.{WritesAreThere, opening_stamps}
use Rattle.rl_worker.specs.declared.act.Moved.{Moved}
use Rattle.rl_worker.specs.declared.words.Words.{Words}
use Rattle.rl_worker.specs.declared.worker.Worker.{Worker}

-- a cause is true: another worker held the record, or no other did and its stamp had moved
abbrev pub IsTrueCause : (worker : ℕ) → Cause → Type 0
IsTrueCause w (Locked holder found) = other w holder ≡ true
IsTrueCause w (Changed holder seen found) = (other w holder ≡ false) × (found ≢ seen)

-- each refusal has a true cause
abbrev pub AllTrue : List CoreRefusal → Type 0
AllTrue [] = Unit {0}
AllTrue (f ∷ fs) = IsTrueCause f.worker f.cause × AllTrue fs

-- the items with a stamp up to t
abbrev pub early : (t : ℕ) → List CoreItem → List CoreItem
early t [] = []
early t (x ∷ xs) = if nat_le x.stamp t then x ∷ early t xs else early t xs

-- an attempt in this phase that drew its stamp up to t is decided or refused
abbrev pub Above : (t : ℕ) → Phase → Type 0
Above t (Validating q u done todo answer writes) = t < u
Above t p = Unit {0}

-- every stamp up to t is drawn, and what drew one is decided or refused
abbrev pub IsSettled : (t : ℕ) → Core → Type 0
IsSettled t c = (t < c.next) × ((w : ℕ) → Above t (phase_of c w))

-- one worker's stamps, over its items and idle draws, the latest first
abbrev pub stamps_by : (w : ℕ) → List (ℕ × ℕ) → List ℕ
stamps_by w [] = []
stamps_by w (x ∷ xs) = if x.0 == w then x.1 ∷ stamps_by w xs else stamps_by w xs

-- all these stamps are below t
abbrev pub AllUnder : (t : ℕ) → List ℕ → Type 0
AllUnder t [] = Unit {0}
AllUnder t (x ∷ xs) = (x < t) × AllUnder t xs

-- each is above all that were made before it
abbrev pub IsFalling : List ℕ → Type 0
IsFalling [] = Unit {0}
IsFalling (x ∷ xs) = AllUnder x xs × IsFalling xs

-- a stamp that is drawn and not yet decided is above all that its worker made before, and below the next
abbrev pub DrawnAbove : Phase → List ℕ → (next : ℕ) → Type 0
DrawnAbove (Validating q t done todo answer writes) xs n = (t < n) × AllUnder t xs
DrawnAbove p xs n = Unit {0}

-- all that a worker made is below the next stamp, and below the one that it has drawn
abbrev pub IsBelowNext : (w : ℕ) → Core → Type 0
IsBelowNext w c = AllUnder c.next (stamps_by w c.made) × DrawnAbove (phase_of c w) (stamps_by w c.made) c.next

-- what is decided is serial, by stamp
abbrev pub DecidesSerially : Type 0
DecidesSerially = (l : OpenLeader) (turns : List Turn) → CoreFits l
    → IsSerial l.tables l.lists l.rows (items_seen l.epoch (core_after l turns).decided)

-- each worker's items are its requests from its first on, in order and none twice
abbrev pub ItemsFollowOn : Type 0
ItemsFollowOn = (l : OpenLeader) (turns : List Turn) → CoreFits l
    → (w : ℕ) → let indexes = indexes_of w (items_seen l.epoch (core_after l turns).decided) in
    indexes ≡ range_with_len (first_of l.firsts w) (length indexes)

-- each refusal has a true cause
abbrev pub CausesAreTrue : Type 0
CausesAreTrue = (l : OpenLeader) (turns : List Turn) → CoreFits l → AllTrue (core_after l turns).refusals

-- each worker's stamps rise
abbrev pub StampsRise : Type 0
StampsRise = (l : OpenLeader) (turns : List Turn) (w : ℕ) → IsFalling (stamps_by w (core_after l turns).made)

-- and are below the next one, and below one that it has drawn and not decided
abbrev pub StampsStayBelow : Type 0
StampsStayBelow = (l : OpenLeader) (turns : List Turn) (w : ℕ) → IsBelowNext w (core_after l turns)

-- where every stamp up to some one is decided or refused, no item up to it is decided later
abbrev pub SettledStays : Type 0
SettledStays = (S : Setting) (core : Core) (t : ℕ) (turns : List Turn) → IsSettled t core
    → early t (after_turns S core turns).decided ≡ early t core.decided

-- ---- one step ----
-- each step of a worker that is there adds an item or none, and changes no other worker
abbrev pub StepsAreOne : Type 0
StepsAreOne = (S : Setting) (core : Core) (w : ℕ) → w < length core.workers → IsOneStep w core (step S core w)

-- each step of the code tells what ended and was refused in it
abbrev pub StepsTellNews : Type 0
StepsTellNews = (tables : List Table) (old new : Worker) (words : Words) (told : Moved) (before after : Core)
    → Steps tables old new words told before after → TellsNews old told before after

-- ---- any turns ----
-- stamps stay in the range of their epoch
abbrev pub StampsStayInRange : Type 0
StampsStayInRange = (l : OpenLeader) (turns : List Turn) → IsInRange l (length turns) (core_after l turns)

-- what is decided is in range
abbrev pub ItemsStayInRange : Type 0
ItemsStayInRange = (l : OpenLeader) (turns : List Turn) → CoreFits l
    → All (SeenInRange l) (items_seen l.epoch (core_after l turns).decided)

-- a worker's decided items, by stamp, are those that have ended, in the order in which they did, and the one that it
-- installs
abbrev pub ItemsEndInOrder : Type 0
ItemsEndInOrder = (l : OpenLeader) (turns : List Turn) (w : ℕ) → let c = core_after l turns in
    items_by w c.decided ≡ ended_by w c ++ option_to_list (installing (phase_of c w))

-- a worker's decided item that has not ended is the one that it installs, as it is seen
abbrev pub OpenItemsAreInstalled : Type 0
OpenItemsAreInstalled = (tables : List Table) (lists : List (List (List Op))) (w : Worker) → WorkerFits tables lists w
    → decided_item w ≡ option_map (item_seen (epoch_of w)) (installing (phase_of_worker tables w))

-- ---- how an epoch opens ----
-- there is an opening stamp for each record
abbrev pub EachRecordOpens : Type 0
EachRecordOpens = (sizes : List ℕ) (items : List Item) → length (opening_stamps sizes items) ≡ sum sizes

-- where all items have stamps below one above 0, as those of earlier epochs, so do the records as they open
abbrev pub OpeningStampsAreEarly : Type 0
OpeningStampsAreEarly = (sizes : List ℕ) (items : List Item) (bound : ℕ) → 0 < bound
    → All (λ (item : Item). packed item.stamp < bound) items → All (λ stamp. stamp < bound) (opening_stamps sizes items)

-- what fits the tables is there
abbrev pub FittingWritesAreThere : Type 0
FittingWritesAreThere = (tables : List Table) (item : Item) → ItemWritesFit tables item
    → WritesAreThere (sizes_of tables) item
