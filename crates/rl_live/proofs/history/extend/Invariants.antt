use Rattle.std.proofs.Common.{◌≡◌, ◌++◌, ◌-◌}
use Rattle.std.specs.Prelude.{slice_set}
use Rattle.std.specs.Vec.Iter.{into_iter_items}
use Rattle.rl_live.proofs.history.extend.Given as goal

-- the stream has the first batches
abbrev pub invariant-loop-batch : goal.invariant-loop-batch
invariant-loop-batch l = record {
  all : l.yielded ++ into_iter_items l.batch-iterator ≡ l.fn.log;
  logs : l.family ≡ slice_set l.fn.family (l.stream - 1) l.yielded;
}
