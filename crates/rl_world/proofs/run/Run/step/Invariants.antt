use Rattle.std.proofs.Common.{◌-◌}
use Rattle.rl_world.proofs.Steps.{IsAmidSteps}
use Rattle.rl_world.proofs.run.Run.step.Given as goal

-- the steps so far are made
abbrev pub invariant-loop-step : goal.invariant-loop-step
invariant-loop-step l = IsAmidSteps l.fn.self l.self l.a l.worker l.count (l.count - l._step)
