-- What a step of a worker does to the records and workers of an open leader. No public contract cites it.
use Rattle.std.specs.Prelude.{◌≡◌, ◌≢◌, ℕ, ◌-◌, ◌<◌, ◌≤◌, ◌++◌, length, slice_set, option_to_list, Option, Some, None, IfSome}
use Rattle.rl_worker.specs.Acts.{Core, CoreRefusal, Step, phase_of, turn}
use Rattle.rl_worker.specs.OneTurn.{newly_refused}
use Rattle.rl_worker.specs.Opening.{setting_of}
use Rattle.rl_worker.specs.declared.act.Moved.{Moved}
use Rattle.rl_nodes.specs.Setups.{Setup}
use Rattle.rl_nodes.specs.Works.{request_in}
use Rattle.rl_node.specs.Fits.{IsStream}
use Rattle.rl_node.specs.Moves.{moved_in}
use Rattle.rl_node.specs.Standing.{AreWorksOf, pending_in}
use Rattle.rl_node.specs.declared.part.Lead.{Lead}
use Rattle.rl_node.specs.declared.part.Works.{Works}

-- the core of a leader of an epoch after a step of worker w
abbrev pub core_stepped : Setup → (e : ℕ) → Core → (w : ℕ) → Core
core_stepped setup e core w = turn (setting_of setup.program.tables setup.program.lists e) core (Step w)

-- the leader has what the step ended among what is pending
pub record HasEnded (old new : Lead) (w : ℕ) (told : Moved) : Type 0 where
  pub epoch : new.epoch ≡ old.epoch
  pub streams : new.streams ≡ old.streams
  pub pending : new.pending.items ≡ slice_set old.pending.items (w - 1) (pending_in old w ++ option_to_list told.ended)

-- the attempt that was refused between two cores, if one was, is that of worker w, which was at its request
abbrev pub RefusesOwn : (before after : Core) → (w : ℕ) → Type 0
RefusesOwn before after w =
    IfSome (newly_refused before after) (λ (f : CoreRefusal). (f.worker ≡ w) × (f.index ≡ request_in (phase_of before w)))

-- the records and workers made a step of the core, and told what it came to
pub record HasStepped (setup : Setup) (l : Lead) (works works' : Works) (core : Core) (w : ℕ) (told : Moved) : Type 0 where
  pub stands : (new : Lead) → length l.pending.items ≡ setup.workers → HasEnded l new w told
      → AreWorksOf setup new works' (core_stepped setup l.epoch core w)
  pub tells : told ≡ moved_in (setting_of setup.program.tables setup.program.lists l.epoch) l.epoch core w
  pub own : RefusesOwn core (core_stepped setup l.epoch core w) w

-- a leader has opened, and its records and workers are those of a core
abbrev pub HasOpenWorks : Setup → Lead → Option Works → Core → Type 0
HasOpenWorks setup l None core = ⊥
HasOpenWorks setup l (Some works) core = AreWorksOf setup l works core

-- fewer items are pending of each other worker than make a batch, and of worker w no more
pub record IsFilling (setup : Setup) (l : Lead) (w : ℕ) : Type 0 where
  pub own : length (pending_in l w) ≤ setup.batch
  pub others : (v : ℕ) → IsStream setup v → v ≢ w → length (pending_in l v) < setup.batch

-- an open leader made a step of worker w: what it ended is pending, and it told what the step came to
pub record HasMoved (setup : Setup) (old new : Lead) (core : Core) (w : ℕ) (told : Moved) : Type 0 where
  pub ended : HasEnded old new w told
  pub acknowledged : new.acknowledged ≡ old.acknowledged
  pub works : HasOpenWorks setup new new.works (core_stepped setup old.epoch core w)
  pub tells : told ≡ moved_in (setting_of setup.program.tables setup.program.lists old.epoch) old.epoch core w
  pub own : RefusesOwn core (core_stepped setup old.epoch core w) w
