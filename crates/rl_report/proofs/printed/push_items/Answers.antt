use Rattle.std.proofs.Common.{arith, refl}
use Rattle.rl_text.proofs.Texts.{lines_done}
use Rattle.rl_report.specs.Printed.{item_words}
use Rattle.rl_report.proofs.printed.push_items.Goals as goal

pub returns : goal.returns
returns c = lines_done item_words c.args.items.now c.args.items.now c.loop-item.item-index _ _ refl (omega (arith, c.loop-item-test.false)) c.loop-item.invariant
