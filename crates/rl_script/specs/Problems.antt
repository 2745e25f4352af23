-- What is wrong with a text, as reading it finds it.
use Rattle.std.specs.Prelude.{◌≡◌, ℕ, Result, Ok, Err}
use Rattle.rl_events.specs.declared.kind.Kind.{Kind}
use Rattle.rl_script.specs.declared.fault.Problem.{Problem}
use Rattle.rl_script.specs.declared.fault.Problem.TheVariants.{Fault, Limit}
use Rattle.rl_script.specs.declared.fault.ParseError.{ParseError}
use Rattle.rl_script.specs.declared.fault.ParseError.TheVariants as parse

-- a rule that a line breaks is what is wrong with it
abbrev pub as_problem : {A : Type 0} → Result A Kind → Result A Problem
as_problem (Ok x) = Ok x
as_problem (Err kind) = Err (Fault kind)

-- what is wrong with a text, and at which line, is what reading finds, unless memory ran out
abbrev pub FailsAt : {A : Type 0} → ParseError → Result A (ℕ × Problem) → Type 0
FailsAt parse.Memory read = Unit {0}
FailsAt (parse.Fault line kind) read = read ≡ Err (line, Fault kind)
FailsAt (parse.Limit line name limit) read = read ≡ Err (line, Limit name limit)
