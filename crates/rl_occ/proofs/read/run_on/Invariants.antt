use Rattle.std.proofs.Common.{◌≡◌}
use Rattle.rl_txn.specs.Eval.{IsEval, rows_given, reads_room}
use Rattle.smallvec.specs.SmallVec.{HasRoomFor}
use Rattle.rl_occ.specs.Reading.{HasRead, SameButAttempt}
use Rattle.rl_occ.proofs.read.run_on.Given as goal

-- it has read what is known so far, and nothing else has changed
abbrev pub invariant-loop-table : goal.invariant-loop-table
invariant-loop-table l = record {
  table : l.pass.table ≡ l.fn.pass.table;
  eval : IsEval l.schema l.txn l.eval;
  read : HasRead l.schema l.pass.view (rows_given l.eval) l.seen.items;
  room : HasRoomFor l.seen (reads_room l.eval);
  same : SameButAttempt l.fn.pass.view l.pass.view;
}

abbrev pub decreases-loop-table : goal.decreases-loop-table
decreases-loop-table l = reads_room l.eval
