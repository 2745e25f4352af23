-- What the command `live` answers.
use Rattle.std.specs.Prelude.{◌≡◌, ◌==◌, ℕ, ◌+◌, ◌*◌, ◌≤◌, List, length, codes, All, Option, None, IsSomeAnd, if◌then◌else◌}
use Rattle.rl_base.specs.declared.limit.TheConstants.{SCRIPT, SLOTS}
use Rattle.rl_check.specs.Right.{IsRight}
use Rattle.rl_live.specs.Run.{RunOk, without_stops}
use Rattle.rl_live.specs.declared.run.LiveRun.{LiveRun}
use Rattle.rl_script.specs.declared.script.Script.{Script}
use Rattle.rl_app.specs.Answers.{AnswersScript}
use Rattle.rl_app.specs.Serve.{Serves, Side, limit_line}

-- in each epoch that a script speaks of, a stream has room for two marks and a batch for each request of the longest list
abbrev pub HasRoom : Script → Type 0
HasRoom script = All (λ list. (length list + 2) * (length script.stops + 1) ≤ SLOTS) script.lists

-- a run of threads of all requests of a script, and the right report of it
pub record IsLiveReport (script : Script) (run : LiveRun) (text : List ℕ) : Type 0 where
  pub ok : RunOk (without_stops script) run
  pub right : IsRight (without_stops script) text run.items

-- the answer to a script: the report of the run that was made of it, or the limit that its longest list passes
pub record AnswersLive (made : Option LiveRun) (script : Script) (status : ℕ) (text : List ℕ) : Type 0 where
  pub long : (HasRoom script → ⊥) → (status ≡ 4) × (text ≡ limit_line (codes "live") SLOTS)
  pub short : HasRoom script → (status ≡ 0) × IsSomeAnd made (λ run. IsLiveReport script run text)

-- a call of `live`: it read a script and wrote the report of a run of it, which it gives back at status 0 alone
pub record ServesLive (source sink : Side) (status : ℕ) (given : Option LiveRun) : Type 0 where
  pub made : Option LiveRun
  pub serves : Serves (AnswersScript (AnswersLive made)) SCRIPT source sink status
  pub gives : given ≡ (if status == 0 then made else None)
