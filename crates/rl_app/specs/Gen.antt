-- What the command `gen` answers.
use Rattle.std.specs.Prelude.{◌≡◌, ℕ, ◌≤◌, ◌-◌, ◌^◌, ◌&&◌, List, [], ◌∷◌, nat_le, Option, Some, None, MatchOption, codes, String, if◌then◌else◌}
use Rattle.std.specs.Global.{Global}
use Rattle.std.specs.Option.{option_and_then}
use Rattle.std.specs.Str.{bytes_eq}
use Rattle.std.specs.String.{string_bytes}
use Rattle.rl_script.specs.LimitNames.{limit_name}
use Rattle.rl_script.specs.Printed.{printed}
use Rattle.rl_script.specs.declared.script.Script.{Script}
use Rattle.rl_text.specs.Numbers.{number_of}
use Rattle.rl_gen.specs.Generated.{passed_limit, generated}
use Rattle.rl_app.specs.declared.generator.Sizes.{Sizes}
use Rattle.rl_app.specs.Serve.{limit_line}
use Rattle.rl_app.specs.Sim.{AnswersWorld}
use Rattle.rl_app.specs.Summary.{IsSummary}

-- the number from low to high that a word is, if it is one
abbrev pub number_from : (low high : ℕ) → List ℕ → Option ℕ
number_from low high word = option_and_then (λ n. if nat_le low n && nat_le n high then Some n else None) (number_of word)

-- the seed, and of nodes, workers and requests at least one each
abbrev pub sizes_of : (seed nodes workers requests : List ℕ) → Option Sizes
sizes_of seed nodes workers requests =
    option_and_then (λ s. option_and_then (λ n. option_and_then (λ w. option_and_then (λ r. Some (record { seed = s; nodes = n; workers = w; requests = r }))
    (number_from 1 (2 ^ 64 - 1) requests)) (number_from 1 (2 ^ 64 - 1) workers)) (number_from 1 (2 ^ 64 - 1) nodes)) (number_from 0 (2 ^ 32 - 1) seed)

-- the sizes behind two words: `gen`, and what is generated
abbrev pub gen_sizes : (what : List ℕ) → List (String Global) → Option Sizes
gen_sizes what (first ∷ second ∷ seed ∷ nodes ∷ workers ∷ requests ∷ []) =
    if bytes_eq (string_bytes first) (codes "gen") && bytes_eq (string_bytes second) what
    then sizes_of (string_bytes seed) (string_bytes nodes) (string_bytes workers) (string_bytes requests) else None
gen_sizes what words = None

-- of nodes, workers and requests there is at least one
pub record SomeEach (sizes : Sizes) : Type 0 where
  pub nodes : 1 ≤ sizes.nodes
  pub workers : 1 ≤ sizes.workers
  pub requests : 1 ≤ sizes.requests

-- the answer where a script of these sizes is to be generated: the first limit that is passed, or else what A answers to the script
abbrev pub AnswersGenerated : (Script → ℕ → List ℕ → Type 0) → Sizes → ℕ → List ℕ → Type 0
AnswersGenerated A sizes status text = MatchOption (passed_limit sizes.nodes sizes.workers sizes.requests)
    (A (generated sizes.seed sizes.nodes sizes.workers sizes.requests) status text)
    (λ limit. (status ≡ 4) × (text ≡ limit_line (limit_name limit.0) limit.1))

-- the script's printed form
abbrev pub IsPrinted : Script → ℕ → List ℕ → Type 0
IsPrinted script status text = (status ≡ 0) × (text ≡ printed script)

-- the answer where a script is generated and printed
abbrev pub GivesScript : Sizes → ℕ → List ℕ → Type 0
GivesScript = AnswersGenerated IsPrinted

-- the answer where a script is generated and run: the summary of the world that its events make, which is safe, or the limit that they pass
abbrev pub GivesRun : Sizes → ℕ → List ℕ → Type 0
GivesRun sizes = AnswersGenerated (AnswersWorld (IsSummary sizes.requests)) sizes
