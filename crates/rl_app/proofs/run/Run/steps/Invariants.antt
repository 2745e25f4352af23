use Rattle.std.proofs.Common.{replicate}
use Rattle.rl_worker.specs.Acts.{Core, Step, after_turns}
use Rattle.rl_worker.specs.Opening.{setting_of}
use Rattle.rl_app.specs.Running.{IsRun}
use Rattle.rl_app.proofs.run.Run.steps.Given as goal

abbrev pub invariant-loop-step : goal.invariant-loop-step
invariant-loop-step l = (core : Core) → IsRun l.schema l.lists l.initial.self core → IsRun l.schema l.lists l.self (after_turns (setting_of l.schema l.lists 1) core (replicate l._step (Step l.worker)))
