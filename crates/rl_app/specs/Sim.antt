-- What the command `sim` answers.
use Rattle.std.specs.Prelude.{◌≡◌, ℕ, List, MatchResult}
use Rattle.rl_script.specs.LimitNames.{limit_name}
use Rattle.rl_script.specs.declared.script.Script.{Script}
use Rattle.rl_nodes.specs.Events.{world_after}
use Rattle.rl_nodes.specs.Reports.{report_of}
use Rattle.rl_nodes.specs.Safe.{Safe}
use Rattle.rl_nodes.specs.Setups.{Setup}
use Rattle.rl_nodes.specs.World.{World}
use Rattle.rl_report.specs.Printed.{printed}
use Rattle.rl_world.specs.Reported.{reported}
use Rattle.rl_world.specs.Scripts.{setup_of}
use Rattle.rl_world.specs.Worlds.{limit_of}
use Rattle.rl_app.specs.Serve.{limit_line}

-- the report of a world, which is safe
pub record IsSimReport (setup : Setup) (w : World) (text : List ℕ) : Type 0 where
  pub printed : text ≡ printed (reported setup.program.tables (report_of setup w))
  pub safe : Safe setup w

-- the answer to a script: a text of the world that its events make of new nodes, as R says, or the limit that they pass
abbrev pub AnswersWorld : (Setup → World → List ℕ → Type 0) → Script → ℕ → List ℕ → Type 0
AnswersWorld R script status text = MatchResult (world_after (setup_of script) script.events)
    (λ w. (status ≡ 0) × R (setup_of script) w text)
    (λ limit. (status ≡ 4) × (text ≡ limit_line (limit_name limit) (limit_of limit)))

-- the answer of `sim` to a script: the report of its world, or the limit that its events pass
abbrev pub GivesWorld : Script → ℕ → List ℕ → Type 0
GivesWorld = AnswersWorld IsSimReport
