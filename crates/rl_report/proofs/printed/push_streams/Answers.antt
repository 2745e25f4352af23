use Rattle.std.proofs.Common.{arith, refl}
use Rattle.rl_text.proofs.Texts.{lines_done}
use Rattle.rl_report.specs.Printed.{stream_words}
use Rattle.rl_report.proofs.printed.push_streams.Goals as goal

pub returns : goal.returns
returns c = lines_done stream_words c.args.streams.now c.args.streams.now c.loop-stream.stream-index _ _ refl (omega (arith, c.loop-stream-test.false)) c.loop-stream.invariant
