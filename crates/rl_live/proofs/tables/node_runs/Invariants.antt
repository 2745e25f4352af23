use Rattle.std.proofs.Common.{◌≡◌, ◌++◌, map, All}
use Rattle.std.specs.Vec.Iter.{into_iter_items}
use Rattle.rl_txn.specs.Serial.{rows_after}
use Rattle.rl_families.specs.Families.{history}
use Rattle.rl_live.proofs.tables.node_runs.Given as goal

-- the first nodes have their tables
abbrev pub invariant-loop-acceptors : goal.invariant-loop-acceptors
invariant-loop-acceptors g l = record {
  all : l.yielded ++ into_iter_items l.acceptors-iterator ≡ l.fn.nodes.items;
  acceptors : map (λ run. run.acceptors) l.runs ≡ l.yielded;
  maps : All (λ run. run.map ≡ rows_after l.script.rows (history l.family)) l.runs;
}
