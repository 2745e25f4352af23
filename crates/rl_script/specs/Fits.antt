-- What a script keeps: the ranges and limits of the language.
use Rattle.std.specs.Prelude.{◌≡◌, ℕ, ◌≤◌, List, length, All, Some}
use Rattle.std.specs.FinMap as map
use Rattle.rl_base.specs.declared.limit.TheConstants.{NODES, WORKERS}
use Rattle.rl_value.specs.Fits.{RowsFit}
use Rattle.rl_value.specs.Rows.{Rows}
use Rattle.rl_value.specs.Tables.{IsSchema}
use Rattle.rl_txn.specs.Fits.{ListsFit}
use Rattle.rl_text.specs.Numbers.{IsNumber, IsWithin}
use Rattle.rl_events.specs.Fits.{EventsFit}
use Rattle.rl_script.specs.declared.script.Script.{Script}
use Rattle.rl_script.specs.declared.script.TheConstants.{MOST_STOPS}

-- the columns of all rows are numbers
abbrev pub ColumnsFit : Rows → Type 0
ColumnsFit rows = (t k : ℕ) (row : List ℕ) → map.get rows (t, k) ≡ Some row → All IsNumber row

-- a script keeps the ranges and limits of the language
pub record ScriptFits (script : Script) : Type 0 where
  pub tables : IsSchema script.schema
  pub nodes : IsWithin 1 NODES script.nodes
  pub workers : IsWithin 1 WORKERS script.workers
  pub batch : IsWithin 1 64 script.batch
  pub loss : script.loss ≤ 999
  pub seed : IsNumber script.seed
  pub stops : All (IsWithin 1 1000000) script.stops
  pub few_stops : length script.stops ≤ MOST_STOPS
  pub rows : RowsFit script.schema script.rows
  pub columns : ColumnsFit script.rows
  pub lists : ListsFit script.schema script.lists
  pub one_list_each : length script.lists ≡ script.workers
  pub events : EventsFit script.nodes script.workers script.events
