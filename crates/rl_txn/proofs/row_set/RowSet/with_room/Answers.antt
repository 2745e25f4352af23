use Rattle.std.proofs.Common.{ap, ◌∙◌}
use Rattle.rl_txn.specs.RowSets.{rows_at}
use Rattle.rl_txn.proofs.RowSets.{no_rows}
use Rattle.rl_txn.proofs.row_set.RowSet.with_room.Goals as goal

pub returns-clause-none : goal.returns-clause-none
returns-clause-none c = ap rows_at c.in_ok-with_capacity.ensures.items ∙ no_rows
