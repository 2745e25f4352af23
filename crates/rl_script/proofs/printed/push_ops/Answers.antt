use Rattle.std.proofs.Common.{arith}
use Rattle.rl_text.proofs.Texts.{lines_done}
use Rattle.rl_script.specs.Printed.{op_words}
use Rattle.rl_script.proofs.printed.push_ops.Goals as goal

pub returns : goal.returns
returns c =
    lines_done (op_words c.args.schema.now) c.args.txn.now c.as_slice-op-items.result.now c.loop-op.op-index _ _ c.as_slice-op-items.ensures (omega (arith, c.loop-op-test.false)) c.loop-op.invariant
