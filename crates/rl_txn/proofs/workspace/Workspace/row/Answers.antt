use Rattle.std.proofs.Common.{arith}
use Rattle.std.proofs.Math.ListN.{length-set}
use Rattle.rl_txn.specs.Run.{value_of}
use Rattle.rl_txn.specs.Eval.{progress_of}
use Rattle.rl_txn.specs.declared.op.Operand.TheVariants.{Reg}
use Rattle.rl_txn.proofs.Known.{fill_more}
use Rattle.rl_txn.proofs.workspace.Workspace.row.Goals as goal

pub loop-i-preserved : goal.loop-i-preserved
loop-i-preserved c = record { four = simp length-set c.loop-i.invariant.four; same = fill_more (value_of (progress_of c.args.self.now)) c.loop-i.cells c.args.values.now c.loop-i.i c.value.result (Reg 0) (omega (arith, c.loop-i.invariant.four, c.requires.few)) (omega arith) c.value.ensures c.loop-i.invariant.same }
