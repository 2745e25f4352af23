-- What the functions of the reader answer, beside what reading says.
use Rattle.std.specs.Prelude.{◌≡◌, ℕ, List, Result, Ok, Err}
use Rattle.rl_text.specs.Printed.{Line}
use Rattle.rl_report.specs.declared.fault.Fault.{Fault}
use Rattle.rl_report.specs.declared.fault.LineError.{LineError}
use Rattle.rl_report.specs.declared.fault.LineError.TheVariants as line
use Rattle.rl_report.specs.declared.fault.LinesError.{LinesError}
use Rattle.rl_report.specs.declared.fault.LinesError.TheVariants as lines
use Rattle.rl_report.specs.declared.fault.ReportError.{ReportError}
use Rattle.rl_report.specs.declared.fault.ReportError.TheVariants as report
use Rattle.rl_report.specs.declared.fault.ReportFault.{ReportFault}
use Rattle.rl_report.specs.Read.{fault_at}

-- a function's answer, seen by `view`, is what reading says
abbrev pub IsRead : {X Y E : Type 0} → (view : X → Y) → Result X E → (read : Result Y E) → Type 0
IsRead view (Ok x) read = read ≡ Ok (view x)
IsRead view (Err e) read = read ≡ Err e

-- what a function found wrong with a line is what reading finds, unless memory ran out
abbrev pub FailsAs : {Y : Type 0} → LineError → (read : Result Y ReportFault) → Type 0
FailsAs line.Memory read = Unit {0}
FailsAs (line.Fault kind) read = read ≡ Err kind

-- a function's answer to a line is what reading says, unless memory ran out
abbrev pub IsLineRead : {X Y : Type 0} → (view : X → Y) → Result X LineError → (read : Result Y ReportFault) → Type 0
IsLineRead view (Ok x) read = read ≡ Ok (view x)
IsLineRead view (Err e) read = FailsAs e read

-- the same of lines
abbrev pub StopsAs : {Y : Type 0} → LinesError → (read : Result Y Fault) → Type 0
StopsAs lines.Memory read = Unit {0}
StopsAs (lines.Fault fault) read = read ≡ Err fault

-- a function's answer to lines is what reading says, unless memory ran out
abbrev pub AreLinesRead : {X Y : Type 0} → (view : X → Y) → Result X LinesError → (read : Result Y Fault) → Type 0
AreLinesRead view (Ok x) read = read ≡ Ok (view x)
AreLinesRead view (Err e) read = StopsAs e read

-- the error of lines whose first has this one
abbrev pub lines_error : List Line → LineError → LinesError
lines_error all (line.Fault kind) = lines.Fault (fault_at all kind)
lines_error all line.Memory = lines.Memory

-- what is wrong with a text, and at which line, is what reading finds, unless memory ran out
abbrev pub FailsAt : {Y : Type 0} → ReportError → (read : Result Y (ℕ × ReportFault)) → Type 0
FailsAt report.Memory read = Unit {0}
FailsAt (report.Fault line kind) read = read ≡ Err (line, kind)
