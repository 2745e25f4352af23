-- What a run keeps as it follows a script: of this private contracts alone speak.
use Rattle.std.specs.Prelude.{◌≡◌, ℕ, ◌+◌, ◌*◌, ◌^◌, ◌<◌, ◌≤◌, List, [], ◌∷◌, length, map, slice_get, reverse, All, Some}
use Rattle.rl_value.specs.Tables.{Table, IsSchema}
use Rattle.rl_txn.specs.declared.op.Op.{Op}
use Rattle.rl_txn.specs.declared.item.Item.{Item}
use Rattle.rl_worker.specs.declared.words.Words.{Words}
use Rattle.rl_worker.specs.declared.worker.Worker.{Worker}
use Rattle.rl_worker.specs.Acts.{Core}
use Rattle.rl_worker.specs.Items.{CoreItem}
use Rattle.rl_worker.specs.Opening.{items_seen}
use Rattle.rl_worker.specs.Workers.{Stands, WorkerFits, RecordsFit, number_of, epoch_of, phase_of_worker}
use Rattle.rl_worker.specs.Phases.{Rest}
use Rattle.rl_report.specs.Forms.{IsRefused}
use Rattle.rl_app.specs.declared.run.Run.{Run}
use Rattle.rl_app.specs.Steps.{refusal_line}

-- each of these items has a seq from this one on
abbrev pub AllFrom : (seq : ℕ) → List Item → Type 0
AllFrom seq [] = Unit {0}
AllFrom seq (x ∷ xs) = (seq ≤ x.stamp.seq) × AllFrom seq xs

-- items by seq
abbrev pub IsBySeq : List Item → Type 0
IsBySeq [] = Unit {0}
IsBySeq (x ∷ xs) = AllFrom x.stamp.seq xs × IsBySeq xs

-- a stamp of epoch 1
abbrev pub IsInFirst : CoreItem → Type 0
IsInFirst x = 1 * 2 ^ 40 ≤ x.stamp

-- a worker at rest before its first request
pub record IsFresh (i : ℕ) (w : Worker) : Type 0 where
  pub number : number_of w ≡ i + 1
  pub epoch : epoch_of w ≡ 1
  pub rests : (tables : List Table) → phase_of_worker tables w ≡ Rest 1
  pub fits : (tables : List Table) (lists : List (List (List Op))) → i < length lists → WorkerFits tables lists w

-- a worker in its place
pub record IsPlaced (tables : List Table) (lists : List (List (List Op))) (words : Words) (core : Core) (i : ℕ) (w : Worker) : Type 0 where
  pub number : number_of w ≡ i + 1
  pub epoch : epoch_of w ≡ 1
  pub fits : WorkerFits tables lists w
  pub stands : Stands tables w words core

-- a run stands for a core
pub record IsRun (tables : List Table) (lists : List (List (List Op))) (run : Run) (core : Core) : Type 0 where
  pub schema : IsSchema tables
  pub workers : (i : ℕ) (w : Worker) → slice_get run.workers.items i ≡ Some w → IsPlaced tables lists run.words core i w
  pub count : length run.workers.items ≡ length lists
  pub records : RecordsFit tables run.words.records.items
  pub decided : run.decided.items ≡ items_seen 1 core.decided
  pub by_seq : IsBySeq run.decided.items
  pub refused : run.refused ≡ map (refusal_line tables) (reverse core.refusals)
  pub named : All IsRefused run.refused
