-- What the functions of the reader answer, beside what reading says.
use Rattle.std.specs.Prelude.{◌≡◌, ℕ, Result, Err}
use Rattle.rl_script.specs.declared.fault.Problem.{Problem}
use Rattle.rl_script.specs.declared.fault.Problem.TheVariants.{Fault, Limit}
use Rattle.rl_script.specs.declared.fault.LineError.{LineError}
use Rattle.rl_script.specs.declared.fault.LineError.TheVariants as errors
use Rattle.rl_script.specs.declared.fault.ParseError.{ParseError}
use Rattle.rl_script.specs.declared.fault.ParseError.TheVariants as parse

-- what a function found wrong is what reading finds, unless memory ran out
abbrev pub Fails : {A : Type 0} → LineError → Result A Problem → Type 0
Fails errors.Memory read = Unit {0}
Fails (errors.Problem problem) read = read ≡ Err problem

-- the error of a text whose line of a number has this one
abbrev pub error_at : ℕ → LineError → ParseError
error_at line (errors.Problem (Fault kind)) = parse.Fault line kind
error_at line (errors.Problem (Limit name limit)) = parse.Limit line name limit
error_at line errors.Memory = parse.Memory
