-- What generating a script comes to. No public contract cites it.
use Rattle.std.specs.Prelude.{◌≡◌, ℕ, None, Some, Result, Ok, Err, IfOk}
use Rattle.rl_base.specs.declared.memory.Memory as memory
use Rattle.rl_script.specs.LimitNames.{limit_name}
use Rattle.rl_script.specs.declared.script.Script.{Script}
use Rattle.rl_gen.specs.Generated.{passed_limit, generated}
use Rattle.rl_gen.specs.declared.generate.GenError.{GenError}
use Rattle.rl_gen.specs.declared.generate.GenError.TheVariants.{GenLimit, Memory}
use Rattle.rl_app.specs.declared.answer.Answer.{Answer}
use Rattle.rl_app.specs.declared.generator.Sizes.{Sizes}
use Rattle.rl_app.specs.Serve.{limit_line}

-- the script of some sizes where no limit is passed, or the first that is
abbrev pub IsGenerated : Sizes → Result Script GenError → Type 0
IsGenerated sizes (Ok script) = (passed_limit sizes.nodes sizes.workers sizes.requests ≡ None)
    × (script ≡ generated sizes.seed sizes.nodes sizes.workers sizes.requests)
IsGenerated sizes (Err (GenLimit name limit)) = passed_limit sizes.nodes sizes.workers sizes.requests ≡ Some (name, limit)
IsGenerated sizes (Err Memory) = Unit {0}

-- the answer where no script was generated
abbrev pub IsAnsweredBy : GenError → Result Answer memory.Memory → Type 0
IsAnsweredBy (GenLimit name limit) answer = IfOk answer (λ a. (a.status.code ≡ 4) × (a.text ≡ limit_line (limit_name name) limit))
IsAnsweredBy Memory answer = IfOk answer (λ a. ⊥)
