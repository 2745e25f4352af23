use Rattle.std.proofs.Common.{take}
use Rattle.rl_worker.specs.Opening.{core_after}
use Rattle.rl_app.specs.Runs.{leader_of, turns_of}
use Rattle.rl_app.specs.Running.{IsRun}
use Rattle.rl_app.proofs.run.Run.follow.Given as goal

abbrev pub invariant-loop-event : goal.invariant-loop-event
invariant-loop-event l = IsRun l.script.schema l.script.lists l.self (core_after (leader_of l.script) (turns_of (take l.event-index l.script.events)))
