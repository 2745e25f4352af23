use Rattle.std.proofs.Common.{◌≡◌, ◌<◌, ◌∙◌, length, get_or, sym, ap, arith}
use Rattle.rl_report.specs.Lent.{threads_report}
use Rattle.rl_report.specs.Lines.{row_lines}
use Rattle.rl_report.specs.declared.block.Block.{Block}
use Rattle.rl_check.proofs.NodeLemmas.{node_more, right_more}
use Rattle.rl_check.proofs.nodes.judge_nodes.Goals as goal

pub loop-block-preserved : goal.loop-block-preserved
loop-block-preserved c =
    let report = threads_report c.args.items.now c.args.nodes.now in
    let i = c.loop-block.block-index in
    let b : Block = c.block-item.result in
    let within : i < length report.blocks = rw c.as_slice-block-items.ensures at c.loop-block-test.true in
    let at : b ≡ get_or report.blocks i b = rw c.as_slice-block-items.ensures at c.block-item.is in
    let same = rw c.in_default.is at c.in_ok-other.ensures.same in
    record {
      node = omega arith;
      few = omega (arith, c.if-node-script.false, c.loop-block.invariant.few);
      line = omega (arith, node_more report i b within at, c.len-in-loop-block.ensures, ap length c.rows-in-loop-block.ensures, c.loop-block.invariant.line);
      right = right_more (row_lines c.args.script.now.schema c.args.rows.now) report.blocks i b within at c.loop-block.invariant.right (sym c.rows.ensures ∙ same);
    }
