use Rattle.std.proofs.Common.{arith}
use Rattle.rl_text.proofs.Texts.{parts_done}
use Rattle.rl_script.specs.Printed.{txn_lines}
use Rattle.rl_script.proofs.printed.push_list.Goals as goal

pub returns : goal.returns
returns c =
    parts_done (txn_lines c.args.schema.now c.args.worker) c.args.list.now c.as_slice-txn-items.result.now c.loop-txn.txn-index _ _ c.as_slice-txn-items.ensures (omega (arith, c.loop-txn-test.false)) c.loop-txn.invariant
