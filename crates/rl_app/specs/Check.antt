-- What the command `check` answers.
use Rattle.std.specs.Prelude.{◌≡◌, ℕ, ◌+◌, ◌<◌, ◌≤◌, List, [], ◌∷◌, ◌++◌, length, codes, MatchOption}
use Rattle.std.specs.Fmt.{decimal}
use Rattle.rl_base.specs.declared.limit.TheConstants.{SCRIPT}
use Rattle.rl_text.specs.Text.{lines_of}
use Rattle.rl_events.specs.declared.kind.Kind.TheVariants.{Unended}
use Rattle.rl_script.specs.declared.script.Script.{Script}
use Rattle.rl_check.specs.Inputs.{script_part, report_part}
use Rattle.rl_check.specs.Verdicts.{IsVerdict}
use Rattle.rl_check.specs.declared.verdict.Verdict.{Verdict}
use Rattle.rl_check.specs.declared.verdict.Verdict.TheVariants.{Yes, No}
use Rattle.rl_check.specs.declared.verdict.Why.{Why}
use Rattle.rl_check.specs.declared.verdict.Why.TheVariants as why
use Rattle.rl_app.specs.Answers.{AnswersScript, fault_line}
use Rattle.rl_app.specs.Serve.{limit_line}

-- the word of a reason
abbrev pub why_text : Why → List ℕ
why_text why.Form = codes "form"
why_text why.Title = codes "title"
why_text why.Stamp = codes "stamp"
why_text why.Request = codes "request"
why_text why.Reply = codes "reply"
why_text why.Missing = codes "missing"
why_text why.Table = codes "table"
why_text why.Nodes = codes "nodes"

-- the status and the text of a verdict
abbrev pub SaysVerdict : Verdict → ℕ → List ℕ → Type 0
SaysVerdict (Yes items) status text = (status ≡ 0) × (text ≡ codes "yes " ++ decimal items ++ 10 ∷ [])
SaysVerdict (No line reason) status text =
    (status ≡ 1) × (text ≡ codes "no line " ++ decimal line ++ 32 ∷ why_text reason ++ 10 ∷ [])

-- the answer to the report of an input: its verdict, or a fault behind the last line where no line `report` follows the script
abbrev pub ChecksReport : (input : List ℕ) → Script → ℕ → List ℕ → Type 0
ChecksReport input script status text = MatchOption (report_part input)
    ((status ≡ 3) × (text ≡ fault_line (length (lines_of input) + 1) Unended))
    (λ report. (verdict : Verdict) × IsVerdict script report verdict × SaysVerdict verdict status text)

-- the answer to an input: the limit of the script, then what is wrong with the script, and then the answer to the report
pub record Checks (input : List ℕ) (status : ℕ) (text : List ℕ) : Type 0 where
  pub long : SCRIPT < length (script_part input) → (status ≡ 4) × (text ≡ limit_line (codes "script") SCRIPT)
  pub short : length (script_part input) ≤ SCRIPT → AnswersScript (ChecksReport input) (script_part input) status text
