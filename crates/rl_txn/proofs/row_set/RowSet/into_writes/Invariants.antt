use Rattle.std.proofs.Common.{◌≡◌, ◌≤◌, ◌++◌, map, length, vec_capacity}
use Rattle.rl_txn.specs.Run.{write_of}
use Rattle.rl_txn.specs.RowSets.{entry_of}
use Rattle.rl_txn.proofs.row_set.RowSet.into_writes.Given as goal

abbrev pub invariant-loop-at : goal.invariant-loop-at
invariant-loop-at l = record {
  items : l.writes.items ≡ map (λ r. write_of (entry_of r)) l.yielded;
  room : length (l.yielded ++ l.at-iterator) ≤ vec_capacity l.writes;
  all : l.yielded ++ l.at-iterator ≡ l.initial.at-iterator;
}
