use Rattle.std.proofs.Common.{◌≡◌, ◌+◌, All, length, take}
use Rattle.std.specs.Prelude.{sum_by}
use Rattle.rl_shared_replay.specs.Replayable.{IsReplayable}
use Rattle.rl_shared_replay.specs.Start.{all_items}
use Rattle.rl_threads_tests.specs.Numbered.{IsNumbered}
use Rattle.rl_threads_tests.proofs.family.parts_of.Given as goal

abbrev pub invariant-loop-plan : goal.invariant-loop-plan
invariant-loop-plan l = record {
  items : All (All (IsReplayable l.schema)) l.parts;
  seqs : IsNumbered 2 (all_items l.parts);
  next : l.seq ≡ 2 + length (all_items l.parts);
  many : length (all_items l.parts) ≡ sum_by (λ plan. length plan.items) (take l.plan-index l.plans);
}
