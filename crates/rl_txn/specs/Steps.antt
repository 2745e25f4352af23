-- One op of an evaluation: what it leaves, and what room it uses.
use Rattle.std.specs.Prelude.{◌≡◌, ◌+◌, ◌≤◌, Bool, true, false, List, [], ◌∷◌, length, Option, Some, None, vec_capacity}
use Rattle.std.specs.List.{list_any}
use Rattle.std.specs.FinMap as finite
use Rattle.rl_value.specs.Tables.{Table}
use Rattle.rl_txn.specs.Run.{Progress, op_done}
use Rattle.rl_txn.specs.Eval.{progress_of, rows_of, places_read, unknown}
use Rattle.rl_txn.specs.declared.op.Op.{Op}
use Rattle.rl_txn.specs.declared.workspace.Workspace.{Workspace}
use Rattle.rl_txn.specs.declared.eval.Eval.{Eval}

-- what an op left, or that it declined and left all as it was
abbrev pub Leaves : Option Progress → Progress → Progress → Bool → Type 0
Leaves done old new true = done ≡ Some new
Leaves done old new false = (done ≡ None) × (new ≡ old)

-- what an op on the rows that were read leaves of a workspace
abbrev pub StepLeaves : List Table → Op → (old new : Workspace) → (went : Bool) → Type 0
StepLeaves tables op old new went =
    Leaves (op_done tables (rows_of old.read.0) op (progress_of old)) (progress_of old) (progress_of new) went

-- it reads nothing new into the workspace, and uses no more room than for one output and one write
pub record UsesRoom (old new : Workspace) : Type 0 where
  pub read : new.read ≡ old.read
  pub capacity : vec_capacity new.outs ≡ vec_capacity old.outs
  pub outs : length new.outs.items ≤ length old.outs.items + 1
  pub room : old.written.1 ≤ new.written.1 + 1
  pub writes : length (finite.entries new.written.0) ≤ length (finite.entries old.written.0) + 1

-- all places that the op at hand reads are known
abbrev pub AllKnown : List Table → List Op → Eval → Type 0
AllKnown tables [] e = Unit {0}
AllKnown tables (op ∷ ops) e =
    list_any (unknown e.work.read.0 e.work.written.0) (places_read tables op (progress_of e.work)) ≡ false
