-- What the command `steps` reports.
use Rattle.std.specs.Prelude.{◌≡◌, ℕ, List, map, reverse}
use Rattle.rl_base.specs.declared.refusal.Refusal.{Refusal}
use Rattle.rl_base.specs.declared.refusal.Refusal.TheVariants as refusal
use Rattle.rl_value.specs.Tables.{Table, name_of}
use Rattle.rl_tables.specs.Numbers.{sizes_of, place_of}
use Rattle.rl_txn.specs.Serial.{rows_after, IsSerial, IsInLists}
use Rattle.rl_txn.specs.declared.item.Item.{Item}
use Rattle.rl_script.specs.declared.script.Script.{Script}
use Rattle.rl_worker.specs.Acts.{CoreRefusal}
use Rattle.rl_worker.specs.Laws.{AllTrue}
use Rattle.rl_worker.specs.Opening.{items_seen}
use Rattle.rl_worker.specs.Told.{refused}
use Rattle.rl_report.specs.Printed.{printed}
use Rattle.rl_report.specs.declared.middle.Middle.{Middle}
use Rattle.rl_report.specs.declared.middle.Middle.TheVariants.{Locked, Changed}
use Rattle.rl_report.specs.declared.report.Title.TheVariants.{Steps}
use Rattle.rl_app.specs.Reports.{run_report}
use Rattle.rl_app.specs.Runs.{core_of}

-- an attempt of epoch 1 that was refused, with the name of the table and the key of the record
abbrev pub refused_line : List Table → (worker index : ℕ) → Refusal → Middle
refused_line tables worker index (refusal.Locked r word) =
    let place = place_of (sizes_of tables) r in Locked 1 worker index (name_of tables place.0) place.1 word
refused_line tables worker index (refusal.Changed r seen found) =
    let place = place_of (sizes_of tables) r in Changed 1 worker index (name_of tables place.0) place.1 seen found

-- a refusal that the core of epoch 1 kept
abbrev pub refusal_line : List Table → CoreRefusal → Middle
refusal_line tables f = refused_line tables f.worker f.index (refused f)

-- what the steps of a script decided
abbrev pub decided_of : Script → List Item
decided_of script = items_seen 1 (core_of script).decided

-- the refusals, of which the core kept the latest first
abbrev pub refused_in : Script → List Middle
refused_in script = map (refusal_line script.schema) (reverse (core_of script).refusals)

-- the report of a script's steps: the refusals, each with a true cause, what was decided, which one thread could have
-- done, and the rows after that
pub record IsStepsReport (script : Script) (text : List ℕ) : Type 0 where
  pub printed : let items = decided_of script in text ≡ printed (run_report Steps (refused_in script) items script.schema (rows_after script.rows items))
  pub serial : IsSerial script.schema script.lists script.rows (decided_of script)
  pub in_lists : IsInLists (decided_of script)
  pub causes : AllTrue (core_of script).refusals
