-- Reading and printing undo each other.
use Rattle.std.specs.Prelude.{◌≡◌, ℕ, List, Ok}
use Rattle.rl_report.specs.declared.report.Report.{Report}
use Rattle.rl_report.specs.Forms.{IsReport}
use Rattle.rl_report.specs.Numbers.{HasNumbers}
use Rattle.rl_report.specs.Printed.{printed}
use Rattle.rl_report.specs.Read.{read_report}

-- a text that is read as a report is the text of that report, which is of one of the four forms
abbrev pub ReadIsPrinted : Type 0
ReadIsPrinted = (text : List ℕ) (r : Report) → read_report text ≡ Ok r → (text ≡ printed r) × IsReport r

-- the text of a report of one of the four forms is read as the report
abbrev pub PrintedIsRead : Type 0
PrintedIsRead = (r : Report) → IsReport r → HasNumbers r → read_report (printed r) ≡ Ok r
