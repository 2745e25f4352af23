use Rattle.std.proofs.Common.{arith, refl}
use Rattle.rl_text.proofs.Texts.{parts_done}
use Rattle.rl_report.specs.Printed.{block_lines}
use Rattle.rl_report.proofs.printed.push_blocks.Goals as goal

pub returns : goal.returns
returns c = parts_done block_lines c.args.blocks.now c.args.blocks.now c.loop-block.block-index _ _ refl (omega (arith, c.loop-block-test.false)) c.loop-block.invariant
