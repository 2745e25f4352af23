use Rattle.std.proofs.Common.{◌≡◌, ◌++◌, map}
use Rattle.std.specs.Vec.Iter.{into_iter_items}
use Rattle.rl_world.specs.Reported.{row_line}
use Rattle.rl_world.proofs.blocks.lines_of.Given as goal

-- the rows so far
abbrev pub invariant-loop-entry : goal.invariant-loop-entry
invariant-loop-entry l = record {
  all : l.yielded ++ into_iter_items l.entry-iterator ≡ l.fn.rows;
  lines : l.lines.items ≡ map (row_line l.schema) l.yielded;
}
