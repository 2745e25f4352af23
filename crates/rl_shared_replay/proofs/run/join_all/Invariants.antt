use Rattle.std.proofs.Common.{◌≡◌, ◌++◌}
use Rattle.std.specs.Vec.Iter.{into_iter_items}
use Rattle.rl_shared_replay.specs.Jobs.{SeesAll}
use Rattle.rl_shared_replay.proofs.run.join_all.Given as goal

-- the seats so far were joined
abbrev pub invariant-loop-other : goal.invariant-loop-other
invariant-loop-other l = record {
  table : l.seat.table ≡ l.records.table;
  all : l.yielded ++ into_iter_items l.other-iterator ≡ l.fn.seats.items;
  sees : SeesAll l.seat.view l.yielded;
}
