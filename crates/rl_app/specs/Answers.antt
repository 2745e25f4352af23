-- What a command that reads a script answers.
use Rattle.std.specs.Prelude.{◌≡◌, ℕ, List, [], ◌∷◌, ◌++◌, codes, MatchResult}
use Rattle.std.specs.Fmt.{decimal}
use Rattle.rl_events.specs.declared.kind.Kind.{Kind}
use Rattle.rl_events.specs.declared.kind.Kind.TheVariants as kinds
use Rattle.rl_script.specs.Read.{read}
use Rattle.rl_script.specs.LimitNames.{limit_name}
use Rattle.rl_script.specs.declared.fault.Problem.{Problem}
use Rattle.rl_script.specs.declared.fault.Problem.TheVariants.{Fault, Limit}
use Rattle.rl_script.specs.declared.script.Script.{Script}
use Rattle.rl_app.specs.Serve.{limit_line}

-- the word of a kind of fault
abbrev pub kind_text : Kind → List ℕ
kind_text kinds.Byte = codes "Byte"
kind_text kinds.Header = codes "Header"
kind_text kinds.Word = codes "Word"
kind_text kinds.Order = codes "Order"
kind_text kinds.Count = codes "Count"
kind_text kinds.Number = codes "Number"
kind_text kinds.Range = codes "Range"
kind_text kinds.Name = codes "Name"
kind_text kinds.Duplicate = codes "Duplicate"
kind_text kinds.UnknownTable = codes "UnknownTable"
kind_text kinds.Register = codes "Register"
kind_text kinds.Relation = codes "Relation"
kind_text kinds.Unended = codes "Unended"

-- the line of a fault: its line and its kind
abbrev pub fault_line : ℕ → Kind → List ℕ
fault_line line kind = codes "fault line " ++ decimal line ++ 32 ∷ kind_text kind ++ 10 ∷ []

-- the status and the text of what is wrong with a line of a script
abbrev pub Refuses : ℕ → Problem → ℕ → List ℕ → Type 0
Refuses line (Fault kind) status text = (status ≡ 3) × (text ≡ fault_line line kind)
Refuses line (Limit name limit) status text = (status ≡ 4) × (text ≡ limit_line (limit_name name) limit)

-- the answer to an input that is a script, as R says, or to one that is none, at the first line with which something is wrong
abbrev pub AnswersScript : (Script → ℕ → List ℕ → Type 0) → List ℕ → ℕ → List ℕ → Type 0
AnswersScript R input status text =
    MatchResult (read input) (λ script. R script status text) (λ wrong. Refuses wrong.0 wrong.1 status text)

-- the answer of a command that has a report of each script, which R relates to it
abbrev pub Reports : (Script → List ℕ → Type 0) → List ℕ → ℕ → List ℕ → Type 0
Reports R = AnswersScript (λ script status text. (status ≡ 0) × R script text)
