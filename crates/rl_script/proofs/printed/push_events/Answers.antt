use Rattle.std.proofs.Common.{arith}
use Rattle.std.proofs.lemmas.Bool.Decides.{nat_tests}
use Rattle.rl_script.proofs.PrintLemmas.{events_done}
use Rattle.rl_script.proofs.printed.push_events.Goals as goal

pub returns : goal.returns
returns c =
    let none = c.is_empty.ensures in
    let some = c.if-is_empty.false in
    events_done c.args.events.now c.loop-event.event-index _ _ (grind (arith, nat_tests)) (omega (arith, c.loop-event-test.false)) c.loop-event.invariant
