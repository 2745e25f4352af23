-- What the lines so far keep, while a script is read.
use Rattle.std.specs.Prelude.{◌≡◌, ℕ, ◌+◌, ◌≤◌, List, [], length, All, sum_by, Option, None, IfSome, is_some, true, false, unwrap_or, if◌then◌else◌}
use Rattle.rl_base.specs.declared.limit.TheConstants.{NODES, REQUESTS, WORKERS}
use Rattle.rl_value.specs.Fits.{RowsFit}
use Rattle.rl_value.specs.Tables.{Table, IsSchema}
use Rattle.rl_txn.specs.Fits.{TxnFits}
use Rattle.rl_txn.specs.declared.op.Op.{Op}
use Rattle.rl_text.specs.Numbers.{IsWithin, IsNumber}
use Rattle.rl_events.specs.Fits.{EventsFit}
use Rattle.rl_script.specs.declared.draft.OpenTxn.{OpenTxn}
use Rattle.rl_script.specs.declared.draft.Draft.{Draft}
use Rattle.rl_script.specs.declared.script.TheConstants.{MOST_STOPS}
use Rattle.rl_script.specs.declared.settings.Settings.{Settings}
use Rattle.rl_script.specs.Fits.{ColumnsFit}
use Rattle.rl_script.specs.Sections.{is_before_requests, is_events}
use Rattle.rl_script.specs.Settings.{nodes_of, workers_of}

-- the settings so far are in their ranges
pub record SettingsFit (s : Settings) : Type 0 where
  pub nodes : IsWithin 1 NODES (nodes_of s)
  pub workers : IsWithin 1 WORKERS (workers_of s)
  pub batch : IsWithin 1 64 (unwrap_or s.batch 1)
  pub loss : unwrap_or s.loss 0 ≤ 999
  pub seed : IsNumber (unwrap_or s.seed 0)
  pub stops : All (IsWithin 1 1000000) s.stops
  pub few_stops : length s.stops ≤ MOST_STOPS

-- the requests so far fit the tables, and the one that is open can join them
pub record RequestsFit (tables : List Table) (workers : ℕ) (lists : List (List (List Op))) (current : Option OpenTxn) : Type 0 where
  pub each : All (All (TxnFits tables)) lists
  pub one_list_each : length lists ≡ workers
  pub few : sum_by length lists + (if is_some current then 1 else 0) ≤ REQUESTS
  pub open_fits : IfSome current (λ current. TxnFits tables current.txn × IsWithin 1 (length lists) current.worker)

-- what the lines so far say fits together
pub record DraftFits (draft : Draft) : Type 0 where
  pub tables : IsSchema draft.schema
  pub settings : SettingsFit draft.settings
  pub rows : RowsFit draft.schema draft.rows
  pub columns : ColumnsFit draft.rows
  pub requests : RequestsFit draft.schema (workers_of draft.settings) draft.lists draft.current
  pub tables_first : is_before_requests draft.section ≡ true → (sum_by length draft.lists ≡ 0) × (draft.current ≡ None)
  pub events : EventsFit (nodes_of draft.settings) (workers_of draft.settings) draft.events
  pub events_last : is_events draft.section ≡ false → draft.events ≡ []
