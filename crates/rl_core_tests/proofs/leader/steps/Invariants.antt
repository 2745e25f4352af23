use Rattle.rl_worker.specs.Workers.{WorkerFits, RecordsFit}
use Rattle.rl_core_tests.proofs.leader.steps.Given as goal

abbrev pub invariant-loop-step : goal.invariant-loop-step
invariant-loop-step g l = WorkerFits l.leader.schema l.leader.lists l.worker × RecordsFit l.leader.schema l.words.records.items
