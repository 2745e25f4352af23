use Rattle.std.proofs.Common.{arith, refl}
use Rattle.rl_text.proofs.Texts.{parts_done}
use Rattle.rl_report.specs.Printed.{middle_lines}
use Rattle.rl_report.proofs.printed.push_middles.Goals as goal

pub returns : goal.returns
returns c = parts_done middle_lines c.args.middle.now c.args.middle.now c.loop-effect.effect-index _ _ refl (omega (arith, c.loop-effect-test.false)) c.loop-effect.invariant
