-- What the command `serial` reports.
use Rattle.std.specs.Prelude.{◌≡◌, ℕ, List, []}
use Rattle.rl_txn.specs.Serial.{rows_after, IsListByList}
use Rattle.rl_txn.specs.declared.item.Item.{Item}
use Rattle.rl_script.specs.declared.script.Script.{Script}
use Rattle.rl_report.specs.Printed.{printed}
use Rattle.rl_report.specs.declared.report.Title.TheVariants.{Serial}
use Rattle.rl_app.specs.Reports.{run_report}

-- the report of a script: its requests are run list by list, which one thread could have done, and its items and the rows after them are printed
pub record IsReport (script : Script) (text : List ℕ) : Type 0 where
  pub items : List Item
  pub ran : IsListByList script.schema script.lists script.rows items
  pub printed : text ≡ printed (run_report Serial [] items script.schema (rows_after script.rows items))
