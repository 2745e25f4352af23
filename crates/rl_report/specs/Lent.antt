-- What a report is whose rows stay in its text.
use Rattle.std.specs.Prelude.{◌≢◌, List, []}
use Rattle.rl_report.specs.declared.block.Block.{Block}
use Rattle.rl_report.specs.declared.lent.LentReport.{LentReport}
use Rattle.rl_report.specs.declared.lent.LentReport.TheVariants.{Threads, Other}
use Rattle.rl_report.specs.declared.line.ItemLine.{ItemLine}
use Rattle.rl_report.specs.declared.report.Report.{Report}
use Rattle.rl_report.specs.declared.report.Title.TheVariants.{Live}

-- the report of a run of threads with these items and nodes
abbrev pub threads_report : List ItemLine → List Block → Report
threads_report items nodes = record { title = Live; middle = []; items = items; tables = []; blocks = nodes }

-- the report that a lent one stands for
abbrev pub lent_report : LentReport → Report
lent_report (Threads items nodes) = threads_report items nodes
lent_report (Other report) = report

-- a report that is read whole is of another command
abbrev pub IsOfOther : LentReport → Type 0
IsOfOther (Threads items nodes) = Unit {0}
IsOfOther (Other report) = report.title ≢ Live
