-- What an attempt keeps in each phase.
use Rattle.std.specs.Prelude.{◌≡◌, ℕ, ◌<◌, ◌≤◌, List, [], map, length, sum}
use Rattle.smallvec.specs.SmallVec.{SmallVec, HasRoomFor}
use Rattle.rl_value.specs.Rows.{Rows}
use Rattle.rl_value.specs.Tables.{Table}
use Rattle.rl_tables.specs.Numbers.{sizes_of}
use Rattle.rl_txn.specs.Eval.{IsEval, rows_given, reads_room}
use Rattle.rl_txn.specs.Fits.{AnswerFits, TxnFits}
use Rattle.rl_txn.specs.Run.{run}
use Rattle.rl_txn.specs.declared.op.Op.{Op}
use Rattle.rl_txn.specs.declared.write.Reply.{Reply}
use Rattle.rl_txn.specs.declared.write.Write.{Write}
use Rattle.rl_store.specs.declared.view.Read.{Read}
use Rattle.rl_store.specs.declared.view.View.{View}
use Rattle.rl_store.specs.Entries.{In}
use Rattle.rl_store.specs.Opening.{Made}
use Rattle.rl_store.specs.Passes.{PassOf, StoreOf}
use Rattle.rl_store.specs.Views.{blank}
use Rattle.rl_occ.specs.declared.attempt.Phase.{Phase}
use Rattle.rl_occ.specs.declared.attempt.Phase.TheVariants as phases
use Rattle.rl_occ.specs.declared.attempt.Work.{Work}
use Rattle.rl_occ.specs.declared.attempt.Work.TheVariants.{Begun, Executed, Locked, Stopped}
use Rattle.rl_occ.specs.declared.sets.Lock.{Lock}
use Rattle.rl_occ.specs.declared.sets.Seen.{Seen}
use Rattle.rl_occ.specs.Fits.{AreWrites, IsStoreOf, rec_of}
use Rattle.rl_occ.specs.Locking.{AreBelow, held_of, lock_rec}
use Rattle.rl_occ.specs.Outcomes.{IsStopped}
use Rattle.rl_occ.specs.Reading.{AreOnce, HasRead, HasRowsRead, seen_of}

-- the phase
abbrev pub phase_of : Work → Phase
phase_of (Begun eval) = phases.Begun
phase_of (Executed reply writes) = phases.Executed
phase_of (Locked reply writes) = phases.Locked
phase_of Stopped = phases.Stopped

-- the words of the reads are kept
pub record HasSeen (tables : List Table) (v : View) (words : List Seen) : Type 0 where
  pub seen : map seen_of v.attempt.reads ≡ words
  pub once : AreOnce v.attempt.reads
  pub below : (x : Read) → In x v.attempt.reads → x.rec < sum (sizes_of tables)

-- the transaction has run on what was read, and its writes can be made
pub record HasRun (tables : List Table) (txn : List Op) (v : View) (reply : Reply) (writes : List Write) : Type 0 where
  pub run : (rows : Rows) → HasRowsRead tables v.attempt.reads rows → (reply, writes) ≡ run tables txn rows
  pub writes_fit : AreWrites tables writes
  pub fits : AnswerFits tables txn reply writes

-- the attempt has read, and holds these locks, and has done nothing else
abbrev pub HasLocked : (v : View) (locks : List Lock) → Type 0
HasLocked v locks = v.attempt ≡ record blank { reads = v.attempt.reads; held = map held_of locks }

-- what is kept fits the phase
abbrev pub WorkFits : (tables : List Table) (txn : List Op) (made : Made) (v : View) (seen : SmallVec Seen) (locks : SmallVec Lock) → Work → Type 0
WorkFits tables txn made v seen locks (Begun eval) = IsEval tables txn eval × HasRead tables v (rows_given eval) seen.items × HasRoomFor seen (reads_room eval) × (locks.items ≡ []) × HasRoomFor locks (length txn)
WorkFits tables txn made v seen locks (Executed reply writes) = HasLocked v [] × HasSeen tables v seen.items × HasRun tables txn v reply writes × (locks.items ≡ []) × HasRoomFor locks (length txn)
WorkFits tables txn made v seen locks (Locked reply writes) = HasLocked v locks.items × HasSeen tables v seen.items × HasRun tables txn v reply writes × (map lock_rec locks.items ≡ map (rec_of tables) writes)
WorkFits tables txn made v seen locks Stopped = IsStopped v locks.items × AreBelow (length made.columns) locks.items

-- the attempt stands on its store, tables and transaction
pub record AttemptFits (store : StoreOf) (layout : List ℕ) (tables : List Table) (txn : List Op) (pass : PassOf) : Type 0 where
  pub table : pass.table ≡ store.table
  pub sizes : layout ≡ sizes_of tables
  pub store_fits : IsStoreOf store.made tables
  pub txn_fits : TxnFits tables txn
