use Rattle.std.specs.Mem.Slots.{slots_items}
use Rattle.rl_shared_replay.specs.Ends.{ReadBelow}
use Rattle.rl_shared_replay.proofs.read.read_rows.Given as goal

-- the rows of the first records
abbrev pub invariant-loop-r : goal.invariant-loop-r
invariant-loop-r l = ReadBelow l.layout l.columns (slots_items l.closed.words) l.r l.map
