use Rattle.std.proofs.Common.{arith, refl}
use Rattle.rl_text.proofs.Texts.{lines_done}
use Rattle.rl_report.specs.Printed.{row_words}
use Rattle.rl_report.proofs.printed.push_rows.Goals as goal

pub returns : goal.returns
returns c = lines_done row_words c.args.rows.now c.args.rows.now c.loop-row.row-index _ _ refl (omega (arith, c.loop-row-test.false)) c.loop-row.invariant
