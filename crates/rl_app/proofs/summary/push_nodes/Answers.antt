use Rattle.std.proofs.Common.{arith, refl}
use Rattle.rl_text.proofs.Texts.{lines_done}
use Rattle.rl_app.specs.Summary.{node_words}
use Rattle.rl_app.proofs.summary.push_nodes.Goals as goal

pub returns : goal.returns
returns c = lines_done node_words c.args.blocks.now c.args.blocks.now c.loop-block.block-index _ _ refl (omega (arith, c.loop-block-test.false)) c.loop-block.invariant
