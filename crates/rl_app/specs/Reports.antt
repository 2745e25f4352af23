-- The report of a run of requests.
use Rattle.std.specs.Prelude.{List, [], map}
use Rattle.rl_value.specs.Rows.{Rows}
use Rattle.rl_value.specs.Tables.{Table}
use Rattle.rl_txn.specs.declared.item.Item.{Item}
use Rattle.rl_report.specs.Lines.{item_line, row_lines}
use Rattle.rl_report.specs.declared.middle.Middle.{Middle}
use Rattle.rl_report.specs.declared.report.Report.{Report}
use Rattle.rl_report.specs.declared.report.Title.{Title}

-- the attempts that were refused, the items, and the rows after them
abbrev pub run_report : Title → (refused : List Middle) → List Item → List Table → Rows → Report
run_report title refused items tables rows = record {
  title = title;
  middle = refused;
  items = map item_line items;
  tables = row_lines tables rows;
  blocks = [];
}
