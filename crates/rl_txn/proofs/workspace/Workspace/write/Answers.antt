use Rattle.std.proofs.Common.{◌+◌, ◌≤◌, length, sym, refl, arith, subst}
use Rattle.std.specs.FinMap as finite
use Rattle.rl_txn.proofs.Known.{entries_insert}
use Rattle.rl_txn.proofs.workspace.Workspace.write.Goals as goal

pub returns-in-Some-clause-room : goal.returns-in-Some-clause-room
returns-in-Some-clause-room c = record {
  read = refl;
  capacity = refl;
  outs = omega arith;
  room = c.put.ensures.room;
  writes = subst (λ m. length (finite.entries m) ≤ length (finite.entries c.args.self.now.written.0) + 1) (sym c.put.ensures.rows) (entries_insert c.args.self.now.written.0 _ c.args.row);
}
