use Rattle.std.proofs.Common.{◌≡◌, ◌++◌, map}
use Rattle.std.specs.Vec.Iter.{into_iter_items}
use Rattle.rl_live.specs.Reading.{counted_of}
use Rattle.rl_live.proofs.tables.parts_of.Given as goal

abbrev pub invariant-loop-log : goal.invariant-loop-log
invariant-loop-log l = record {
  all : l.yielded ++ into_iter_items l.log-iterator ≡ l.fn.logs;
  parts : l.parts ≡ map (counted_of l.family) l.yielded;
}
