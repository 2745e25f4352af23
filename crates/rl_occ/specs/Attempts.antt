-- An attempt as contracts see it, and what each of its calls leaves.
use Rattle.std.specs.Prelude.{◌≡◌, ◌≢◌, ℕ, ◌+◌, ◌-◌, ◌*◌, ◌%◌, ◌^◌, ◌<◌, ◌≤◌, List, [], ◌∷◌, ◌++◌, map, sum, Some, Result, Ok, Err}
use Rattle.rl_base.specs.Stamps.{packed}
use Rattle.rl_base.specs.declared.refusal.Refusal.{Refusal}
use Rattle.rl_base.specs.declared.refusal.Refusal.TheVariants.{Locked, Changed}
use Rattle.rl_value.specs.Rows.{Rows}
use Rattle.rl_value.specs.Tables.{Table}
use Rattle.rl_tables.specs.Numbers.{sizes_of}
use Rattle.rl_txn.specs.Fits.{AnswerFits}
use Rattle.rl_txn.specs.Run.{run}
use Rattle.rl_txn.specs.declared.op.Op.{Op}
use Rattle.rl_txn.specs.declared.write.Write as txn
use Rattle.rl_store.specs.declared.spent.DrawStop.{DrawStop}
use Rattle.rl_store.specs.declared.spent.DrawStop.TheVariants.{Above as AboveStop, TriesSpent as SpentStop}
use Rattle.rl_store.specs.declared.view.Read.{Read}
use Rattle.rl_store.specs.declared.view.Refused.{Refused}
use Rattle.rl_store.specs.declared.view.View.{View}
use Rattle.rl_store.specs.Entries.{Holds, In}
use Rattle.rl_store.specs.Passes.{HasReadWord, IsAbove, IsLockedRefusal, PassOf, StoreOf}
use Rattle.rl_store.specs.Refusals.{why}
use Rattle.rl_store.specs.Views.{above_at, blank, rested, stopped, with_draw}
use Rattle.rl_occ.specs.declared.attempt.Phase.{Phase}
use Rattle.rl_occ.specs.declared.outcome.CommitError.{CommitError}
use Rattle.rl_occ.specs.declared.outcome.CommitError.TheVariants.{Refused as RefusedBy, TriesSpent, Above}
use Rattle.rl_occ.specs.declared.outcome.Decided.{Decided}
use Rattle.rl_occ.specs.declared.outcome.Halt.{Halt}
use Rattle.rl_occ.specs.declared.outcome.Halt.TheVariants.{Free, Held}
use Rattle.rl_occ.specs.declared.sets.Lock.{Lock}
use Rattle.rl_occ.specs.Outcomes.{HoldsOf, write_at}
use Rattle.rl_occ.specs.Reading.{HasRowsRead}

-- the store, the tables, the transaction, the view of the pass, and how far it has come
pub record AttemptOf : Type 0 where
  pub store : StoreOf
  pub tables : List Table
  pub txn : List Op
  pub view : View
  pub phase : Phase

-- the same attempt, as the view of its pass and its phase go on
abbrev pub gone_on : (a : AttemptOf) (v : View) (phase : Phase) → AttemptOf
gone_on a v phase = record a { view = v; phase = phase }

-- the least number that is a stamp of the store's epoch
abbrev pub base_of : AttemptOf → ℕ
base_of a = a.store.made.epoch * 2 ^ 40

-- a decided attempt has become an item under its stamp, for one try
abbrev pub with_commit : (tables : List Table) (v : View) (stamp : ℕ) (writes : List txn.Write) → View
with_commit tables v stamp writes = record v {
  tries = v.tries - 1;
  draws = v.draws + 1;
  items = v.items ++ record { stamp = stamp; reads = v.attempt.reads; writes = map (write_at tables) writes } ∷ [];
  attempt = blank;
}

-- an attempt was refused after its draw, and is over, for one try
abbrev pub with_loss : (v : View) (why : Refused) → View
with_loss v why = record v { tries = v.tries - 1; draws = v.draws + 1; refusals = v.refusals + 1; last = Some why; attempt = blank }

-- what was decided: what was read are records of the tables, the reply and the writes are those of the run on any rows
-- that have it and fit the transaction, and the item has its stamp, reads and writes
pub record IsCommitted (a : AttemptOf) (v : View) (d : Decided) : Type 0 where
  pub inside : (x : Read) → In x a.view.attempt.reads → x.rec < sum (sizes_of a.tables)
  pub run : (rows : Rows) → HasRowsRead a.tables a.view.attempt.reads rows → (d.reply, d.writes) ≡ run a.tables a.txn rows
  pub fits : AnswerFits a.tables a.txn d.reply d.writes
  pub epoch : d.stamp.epoch ≡ a.store.made.epoch
  pub seq : (2 ≤ d.stamp.seq) × (d.stamp.seq + 2 ≤ 2 ^ 40)
  pub above : IsAbove a.view (packed d.stamp)
  pub tries : 0 < a.view.tries
  pub view : v ≡ with_commit a.tables a.view (packed d.stamp) d.writes

-- why the commit is refused: a record that the attempt has read was found locked by another, or with another word, and
-- not locked, than the one under which it was read
abbrev pub RefusesCommit : (v : View) → Refusal → Type 0
RefusesCommit v (Locked rec found) = ((word : ℕ) × HasReadWord v rec word) × (found % 2 ≡ 1) × (Holds v rec → ⊥)
RefusesCommit v (Changed rec seen found) = HasReadWord v rec seen × (found ≢ seen) × (found % 2 ≡ 0)

-- a record that the attempt doesn't hold itself was found locked
abbrev pub RefusesOther : (v : View) → Refusal → Type 0
RefusesOther v refusal = (r : ℕ) × IsLockedRefusal r refusal × (Holds v r → ⊥)

-- why nothing was decided, and the view of the pass after it
abbrev pub CommitFails : (a : AttemptOf) (v : View) → CommitError → Type 0
CommitFails a v (RefusedBy refusal) = (0 < a.view.tries) × (v ≡ with_loss a.view (why refusal)) × RefusesCommit a.view refusal
CommitFails a v TriesSpent = (a.view.tries ≡ 0) × (v ≡ rested a.view)
CommitFails a v (Above seq) = ⊥

-- a seq above the limit was drawn
pub record IsAboveLimit (most : ℕ) (a : AttemptOf) (v : View) (seq : ℕ) : Type 0 where
  pub limit : most < seq
  pub tries : 0 < a.view.tries
  pub view : v ≡ stopped a.view.attempt.held (with_draw a.view (base_of a + seq)) (above_at seq)

-- a commit with a limit: the attempt keeps its locks exactly where a seq above the limit was drawn, and it holds some
abbrev pub HaltsAs : (limit : ℕ) (a : AttemptOf) (halt : Halt) (result : Result Decided CommitError) → Type 0
HaltsAs limit a (Free pass) (Ok d) = (pass.table ≡ a.store.table) × IsCommitted a pass.view d × (d.stamp.seq ≤ limit)
HaltsAs limit a (Free pass) (Err (RefusedBy refusal)) = (pass.table ≡ a.store.table) × CommitFails a pass.view (RefusedBy refusal)
HaltsAs limit a (Free pass) (Err TriesSpent) = (pass.table ≡ a.store.table) × CommitFails a pass.view TriesSpent
HaltsAs limit a (Free pass) (Err (Above seq)) = (pass.table ≡ a.store.table) × (a.view.attempt.held ≡ []) × IsAboveLimit limit a pass.view seq
HaltsAs limit a (Held halted) (Err (Above seq)) = (halted.table ≡ a.store.table) × (a.view.attempt.held ≢ []) × HoldsOf a.store.made halted.view × IsAboveLimit limit a halted.view seq
HaltsAs limit a (Held halted) result = ⊥

-- what becomes of an attempt that was stopped at its draw
abbrev pub StopsAs : (pass : PassOf) (locks : List Lock) → DrawStop → Halt → CommitError → Type 0
StopsAs pass locks SpentStop (Free free) TriesSpent = (free.table ≡ pass.table) × (free.view ≡ rested pass.view)
StopsAs pass locks (AboveStop seq) (Free free) (Above drawn) = (free ≡ pass) × (locks ≡ []) × (drawn ≡ seq)
StopsAs pass locks (AboveStop seq) (Held halted) (Above drawn) = (halted ≡ pass) × (locks ≢ []) × (drawn ≡ seq)
StopsAs pass locks stop halt error = ⊥
