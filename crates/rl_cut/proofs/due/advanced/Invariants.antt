use Rattle.std.proofs.Common.{◌≡◌, ◌+◌}
use Rattle.rl_cut.specs.Kept.{AreUpTo}
use Rattle.rl_cut.proofs.due.advanced.Given as goal

abbrev pub invariant-loop-batch : goal.invariant-loop-batch
invariant-loop-batch l = record {
  count : l.count ≡ l.counted + l.batch-index;
  up_to : AreUpTo l.mark l.log l.count;
}
