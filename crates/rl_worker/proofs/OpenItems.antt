-- The decided item of an attempt that has not ended is the one that its worker installs.
use Rattle.std.proofs.Common.{◌≡◌, ℕ, List, Bool, true, false, Option, Some, None, IsSomeAnd, if◌then◌else◌, refl, sym, ap, ◌∙◌}
use Rattle.std.specs.Option.{option_map}
use Rattle.rl_value.specs.Tables.{Table}
use Rattle.rl_txn.specs.Serial.{request}
use Rattle.rl_txn.specs.declared.op.Op.{Op}
use Rattle.rl_worker.specs.declared.commit.Commit.{Commit}
use Rattle.rl_worker.specs.declared.commit.Part.{Part}
use Rattle.rl_worker.specs.declared.commit.Part.TheVariants as part
use Rattle.rl_worker.specs.declared.reading.Reading.{Reading}
use Rattle.rl_worker.specs.declared.worker.Stage.{Stage}
use Rattle.rl_worker.specs.declared.worker.Stage.TheVariants as stage
use Rattle.rl_worker.specs.declared.worker.Worker.{Worker}
use Rattle.rl_worker.specs.Phases.{Wanting, Loading}
use Rattle.rl_worker.specs.Opening.{item_seen}
use Rattle.rl_worker.specs.OneTurn.{installing}
use Rattle.rl_worker.specs.Workers.{part_phase, reading_phase, stage_phase, phase_of_worker, epoch_of, is_storing, decided_at, decided_item, StageFits, is_resting, WorkerFits}
use Rattle.rl_worker.proofs.CodeItems.{IsOf, seen_again}
use Rattle.rl_worker.proofs.Steps.{is_rest}

installs_none : (q : ℕ) (r : Reading) → installing (reading_phase q r) ≡ None
installs_none q r = go r.is_open
  where
    go : (b : Bool) → installing (if b then Loading q r.reads.0 r.next.rec r.next.seen r.next.row else Wanting q r.reads.0 r.next.rec) ≡ None
    go true = refl
    go false = refl

open_part : (tables : List Table) (w : Worker) (c : Commit) (p : Part) → IsOf w c.item
    → (if is_storing p then Some c.item else None) ≡ option_map (item_seen (epoch_of w)) (installing (part_phase tables c p))
open_part tables w c (part.Locking held) of = refl
open_part tables w c (part.Validating done) of = refl
open_part tables w c (part.Storing closed stored) of = ap Some (sym (seen_again tables w c.item of))
open_part tables w c (part.Refusing closed held) of = refl

open_stage : (tables : List Table) (txn : List Op) (w : Worker) (st : Stage) → StageFits tables txn w st
    → decided_at st ≡ option_map (item_seen (epoch_of w)) (installing (stage_phase tables w.index st))
open_stage tables txn w stage.Resting f = refl
open_stage tables txn w (stage.Reading r) f = ap (option_map (item_seen (epoch_of w))) (sym (installs_none w.index r))
open_stage tables txn w (stage.Committing c) f = open_part tables w c c.part (f.3, f.1, f.2)

pub open_item : (tables : List Table) (lists : List (List (List Op))) (w : Worker) → WorkerFits tables lists w
    → decided_item w ≡ option_map (item_seen (epoch_of w)) (installing (phase_of_worker tables w))
open_item tables lists w fits = go (is_resting w.stage) refl
  where
    some : (o : Option (List Op)) → IsSomeAnd o (λ txn. StageFits tables txn w w.stage) → decided_item w ≡ option_map (item_seen (epoch_of w)) (installing (phase_of_worker tables w))
    some None h = absurd h
    some (Some txn) h = open_stage tables txn w w.stage h

    go : (b : Bool) → is_resting w.stage ≡ b → decided_item w ≡ option_map (item_seen (epoch_of w)) (installing (phase_of_worker tables w))
    go true h = let rest = is_rest w.stage h in ap decided_at rest ∙ sym (ap (λ st. option_map (item_seen (epoch_of w)) (installing (stage_phase tables w.index st))) rest)
    go false h = some (request lists w.number w.index) (fits.stage h)
