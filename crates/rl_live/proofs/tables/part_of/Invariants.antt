use Rattle.std.proofs.Common.{◌≡◌, ◌++◌}
use Rattle.std.specs.Vec.Iter.{into_iter_items}
use Rattle.rl_live.specs.Reading.{counted_of}
use Rattle.rl_live.proofs.tables.part_of.Given as goal

abbrev pub invariant-loop-batch : goal.invariant-loop-batch
invariant-loop-batch l = record {
  all : l.yielded ++ into_iter_items l.batch-iterator ≡ l.fn.log;
  part : l.part ≡ counted_of l.family l.yielded;
}
