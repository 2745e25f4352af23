-- What a leader looks at before it proposes the mark of an idle worker. No public contract cites it.
use Rattle.std.specs.Prelude.{◌≡◌, ℕ, ◌+◌, ◌-◌, ◌==◌, ◌&&◌, List, Bool, true, false, Option, None, Some, slice_get}
use Rattle.rl_txn.specs.declared.batch.Batch.{Batch}
use Rattle.rl_txn.specs.declared.batch.Batch.TheVariants.{Idle}
use Rattle.rl_value.specs.Tables.{Table}
use Rattle.rl_worker.specs.Acts.{Core, resting}
use Rattle.rl_worker.specs.Workers.{phase_of_worker}
use Rattle.rl_worker.specs.declared.worker.Worker.{Worker}
use Rattle.rl_nodes.specs.Batches.{END_SEQ}
use Rattle.rl_nodes.specs.Setups.{Setup}
use Rattle.rl_nodes.specs.Works.{may_idle}
use Rattle.rl_node.specs.Standing.{HasFew, lead_with}
use Rattle.rl_node.specs.Stepping.{HasOpenWorks}
use Rattle.rl_node.specs.declared.part.Lead.{Lead}
use Rattle.rl_node.specs.declared.part.Works.{Works}

-- a batch is the end mark of an epoch
abbrev pub is_end_mark : (epoch : ℕ) → Batch → Bool
is_end_mark epoch (Idle stamp) = (stamp.epoch == epoch) && (stamp.seq == END_SEQ)
is_end_mark epoch other = false

-- worker w of the code rests, whatever the tables are
abbrev pub Rests : Works → (w : ℕ) → Type 0
Rests works w = (x : Worker) (tables : List Table) → slice_get works.workers.items (w - 1) ≡ Some x
    → resting (phase_of_worker tables x) ≡ true

-- at a leader that has opened
abbrev pub RestsIn : Option Works → (w : ℕ) → Type 0
RestsIn None w = ⊥
RestsIn (Some works) w = Rests works w

-- a seq was drawn: the next is one more
pub record IsDrawn (old new : Works) : Type 0 where
  pub layout : new.layout ≡ old.layout
  pub words : new.words ≡ record old.words { next = old.words.next + 1 }
  pub workers : new.workers.items ≡ old.workers.items

-- at a leader that has opened
abbrev pub IsDrawnIn : (old new : Option Works) → Type 0
IsDrawnIn (Some old) (Some new) = IsDrawn old new
IsDrawnIn old new = ⊥

-- a leader has opened, and may propose a mark of worker w of its core
pub record MayMark (setup : Setup) (l : Lead) (w : ℕ) (core : Core) : Type 0 where
  pub opened : HasOpenWorks setup l l.works core
  pub few : HasFew setup l
  pub may : may_idle (lead_with l (Some core)) w core ≡ true
