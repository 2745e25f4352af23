-- What one act of an attempt does in the code, and what follows it: of this private contracts alone speak.
use Rattle.std.specs.Prelude.{◌≡◌, ℕ, suc, ◌+◌, ◌≤◌, List, [], length, set, Bool, true, false, nat_le, ◌==◌, ◌&&◌, if◌then◌else◌, Option, Some, None, Result, Ok, Err, All}
use Rattle.rl_base.specs.declared.refusal.Refusal.{Refusal}
use Rattle.rl_value.specs.Tables.{Table}
use Rattle.rl_txn.specs.Eval.{IsEval, rows_given, reads_room}
use Rattle.rl_txn.specs.declared.op.Op.{Op}
use Rattle.rl_worker.specs.declared.act.Moved.{Moved}
use Rattle.rl_worker.specs.declared.words.Words.{Words}
use Rattle.rl_worker.specs.declared.reading.Reading.{Reading}
use Rattle.rl_worker.specs.declared.commit.Commit.{Commit}
use Rattle.rl_worker.specs.declared.commit.Part.{Part}
use Rattle.rl_worker.specs.declared.commit.Part.TheVariants as part
use Rattle.rl_worker.specs.declared.worker.Stage.{Stage}
use Rattle.rl_worker.specs.declared.worker.Stage.TheVariants as stage
use Rattle.rl_worker.specs.declared.worker.Worker.{Worker}
use Rattle.rl_worker.specs.Phases.{Phase, Rest, Asking, Setting, asked}
use Rattle.rl_worker.specs.Acts.{Effect, Drew, Lost, ActResult, target, act_result}
use Rattle.rl_worker.specs.Opening.{overlay_of, outcome}
use Rattle.rl_worker.specs.Told.{found, refused, act_of}
use Rattle.rl_worker.specs.Workers.{reading_phase, commit_phase, phase_of_worker, ReadFits, CommitFits, IsCommitOf, StageFits, is_resting, is_storing, decided_at, decided_item, stamp_next}

-- ---- an act ----
-- the refusal that an effect tells
abbrev pub refusal_of : Effect → Option Refusal
refusal_of (Lost f) = Some (refused f)
refusal_of e = None

-- the next stamp after an effect
abbrev pub next_after : ℕ → Effect → ℕ
next_after n Drew = suc n
next_after n e = n

-- an act of worker w in a phase, on the record that it looks at
abbrev pub act_in : Setting → (w epoch : ℕ) → Phase → Words → ActResult
act_in s w epoch p words = act_result s w (stamp_next epoch words) p (found words.records.items (target p))

-- the code made one act of worker w: the phases before and after, the words before and after, and what it tells
pub record IsAct (s : Setting) (w epoch : ℕ) (p p' : Phase) (words words' : Words) (told : Moved) : Type 0 where
  pub phase : p' ≡ (act_in s w epoch p words).phase
  pub recs : words'.records.items ≡ set words.records.items (target p) (act_in s w epoch p words).rec
  pub next : stamp_next epoch words' ≡ next_after (stamp_next epoch words) (act_in s w epoch p words).effect
  pub refused : told.refused ≡ refusal_of (act_in s w epoch p words).effect
  pub act : told.act ≡ act_of words.next p (found words.records.items (target p))
  pub ended : told.ended ≡ None

-- ---- an attempt that reads ----
-- between two records: all that was read is known to the evaluation
pub record IsAsking (tables : List Table) (txn : List Op) (r : Reading) : Type 0 where
  pub eval : IsEval tables txn r.eval
  pub known : rows_given r.eval ≡ overlay_of tables r.reads.0
  pub room : reads_room r.eval ≤ r.reads.1
  pub closed : r.is_open ≡ false
  pub reads : All (ReadFits tables) r.reads.0

-- where a load left a reading: a refused one is over
abbrev pub reading_left : (q : ℕ) → Reading → Option Refusal → Phase
reading_left q r None = reading_phase q r
reading_left q r (Some refusal) = Rest q

-- where a confirmation left it: between two records
abbrev pub confirmed_phase : (q : ℕ) → Result Reading Refusal → Phase
confirmed_phase q (Ok r) = Asking q r.reads.0
confirmed_phase q (Err refusal) = Rest q

-- a load of a reading, which leaves the words as they are
abbrev pub IsLoad : (old new : Reading) → Words → Moved → Type 0
IsLoad old new words told =
    (s : Setting) (w epoch q : ℕ)
    → IsAct s w epoch (reading_phase q old) (reading_left q new told.refused) words words told

-- what the transaction asks for after a read that counts
abbrev pub ran_on : List Table → List Op → (q : ℕ) → Result Reading Refusal → Phase
ran_on tables txn q (Ok r) = asked q r.reads.0 (outcome tables txn r.reads.0)
ran_on tables txn q (Err refusal) = Rest q

-- the code confirmed a read, and ran on where it counts
pub record Confirms (tables : List Table) (txn : List Op) (old new : Worker) (words : Words) (told : Moved) : Type 0 where
  pub left : Result Reading Refusal
  pub act : (s : Setting) (w epoch : ℕ)
      → IsAct s w epoch (phase_of_worker tables old) (confirmed_phase old.index left) words words told
  pub ran : phase_of_worker tables new ≡ ran_on tables txn old.index left

-- in an attempt that reads
abbrev pub is_reading : Stage → Bool
is_reading (stage.Reading r) = true
is_reading st = false

-- all cells of the wanted record are loaded
abbrev pub is_loaded : Stage → Words → Bool
is_loaded (stage.Reading r) words =
    r.is_open && nat_le (length (found words.records.items r.next.rec).cells) (length r.next.row)
is_loaded st words = false

-- ---- an attempt that commits ----
-- an act of a commit
abbrev pub IsCommitAct : List Table → (old new : Commit) → (words words' : Words) → Moved → Type 0
IsCommitAct tables old new words words' told =
    (s : Setting)
    → IsAct s old.item.worker old.item.stamp.epoch (commit_phase tables old) (commit_phase tables new) words words' told

-- the same attempt: its reads, and its item but for the stamp's seq
pub record IsOfAttempt (old new : Commit) : Type 0 where
  pub reads : new.reads ≡ old.reads
  pub worker : new.item.worker ≡ old.item.worker
  pub index : new.item.index ≡ old.item.index
  pub epoch : new.item.stamp.epoch ≡ old.item.stamp.epoch
  pub reply : new.item.reply ≡ old.item.reply
  pub writes : new.item.writes ≡ old.item.writes
  pub part : is_storing new.part ≡ is_storing old.part
  pub decided : is_storing old.part ≡ true → new.item ≡ old.item

-- where all that was read is validated, the attempt is decided
abbrev pub decided_in : Commit → Part → Commit
decided_in c (part.Validating done) = if done == length c.reads.0 then record c { part = part.Storing 0 0 } else c
decided_in c p = c

-- a commit after it was decided, where it is to be
abbrev pub decided : Commit → Commit
decided c = decided_in c c.part

-- nothing is left to do
abbrev pub is_over : Commit → Part → Bool
is_over c (part.Storing closed stored) = closed == length c.item.writes
is_over c (part.Refusing closed held) = closed == held
is_over c p = false

-- a worker that commits
abbrev pub IsCommitting : List Table → Worker → Stage → Type 0
IsCommitting tables w (stage.Committing c) = IsCommitOf tables w c
IsCommitting tables w st = ⊥

-- an attempt is over: the next request comes where it was decided, else the same again
abbrev pub ended_worker : Worker → Commit → Worker
ended_worker w c = record w { stage = stage.Resting; index = if is_storing c.part then w.index + 1 else w.index }

-- a worker after an act of its commit
abbrev pub finished : Worker → Commit → Worker
finished w c = if is_over c c.part then ended_worker w c else record w { stage = stage.Committing c }

-- the code made an act of a commit, and ended the attempt where nothing was left to do
pub record Commits (tables : List Table) (old new : Worker) (words words' : Words) (told : Moved) : Type 0 where
  pub was : Commit
  pub to : Commit
  pub old_is : old.stage ≡ stage.Committing was
  pub act : (s : Setting)
      → IsAct s old.number old.epoch (phase_of_worker tables old) (commit_phase tables to) words words' (record told { ended = None })
  pub attempt : IsOfAttempt was to
  pub fits : CommitFits tables to
  pub new_is : new ≡ finished old (decided to)
  pub ended : told.ended ≡ (if is_over (decided to) (decided to).part then decided_at (stage.Committing (decided to)) else None)

-- ---- any attempt ----
-- the same worker at the same request
pub record IsAttemptOf (old new : Worker) : Type 0 where
  pub number : new.number ≡ old.number
  pub epoch : new.epoch ≡ old.epoch
  pub index : new.index ≡ old.index

-- an attempt of a request is there: it was begun at rest, or went on before
pub data HasBegun (tables : List Table) (txn : List Op) (old new : Worker) : Type 0 where
  Began : is_resting old.stage ≡ true → decided_item new ≡ None
      → phase_of_worker tables new ≡ asked old.index [] (outcome tables txn []) → HasBegun tables txn old new
  Went : is_resting old.stage ≡ false → new ≡ old → HasBegun tables txn old new

-- the code made one act of an attempt, and what follows it
pub data IsActed (tables : List Table) (txn : List Op) (old new : Worker) (words words' : Words) (told : Moved) : Type 0 where
  Loaded : words' ≡ words → is_reading old.stage ≡ true → IsAttemptOf old new
      → StageFits tables txn new new.stage → decided_item new ≡ None
      → ((s : Setting) (w epoch : ℕ)
      → IsAct s w epoch (phase_of_worker tables old) (phase_of_worker tables new) words words told)
      → IsActed tables txn old new words words' told
  Confirmed : words' ≡ words → is_reading old.stage ≡ true → IsAttemptOf old new
      → StageFits tables txn new new.stage → decided_item new ≡ None → Confirms tables txn old new words told
      → IsActed tables txn old new words words' told
  Committed : Commits tables old new words words' told → IsActed tables txn old new words words' told
