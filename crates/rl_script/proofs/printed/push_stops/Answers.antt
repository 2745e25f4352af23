use Rattle.std.proofs.Common.{arith, refl}
use Rattle.rl_text.proofs.Texts.{lines_done}
use Rattle.rl_script.specs.Printed.{stop_line}
use Rattle.rl_script.proofs.printed.push_stops.Goals as goal

pub returns : goal.returns
returns c = lines_done stop_line c.args.stops.now c.args.stops.now c.loop-d.d-index _ _ refl (omega (arith, c.loop-d-test.false)) c.loop-d.invariant
