use Rattle.std.proofs.Common.{◌≡◌, ◌-◌, length, take}
use Rattle.std.specs.Prelude.{slice_set}
use Rattle.rl_families.specs.Streams.{log_at}
use Rattle.rl_nodes.specs.Batches.{batches_of}
use Rattle.rl_node.proofs.reading.append_slots.Given as goal

abbrev pub invariant-loop-slot : goal.invariant-loop-slot
invariant-loop-slot l = record {
  family : l.family ≡ slice_set l.initial.family (l.stream - 1) (batches_of (take l.slot l.log));
  there : log_at l.family l.stream ≡ batches_of (take l.slot l.log);
  streams : length l.family ≡ length l.initial.family;
}
