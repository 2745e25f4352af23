use Rattle.std.proofs.Common.{◌++◌, ap, ◌∙◌}
use Rattle.rl_cut.proofs.Growing.{stops_above}
use Rattle.rl_cut.proofs.due.push_log.Goals as goal

pub returns-then-begins_above : goal.returns-then-begins_above
returns-then-begins_above c =
    c.loop-batch.invariant
    ∙ ap (λ z. c.args.due.now.items ++ z) (stops_above c.args.marks.before c.args.marks.now c.args.settled.now c.args.log.now c.loop-batch.batch-index c.batch-item.result c.loop-batch-test.true c.batch-item.is c.requires.rising
    c.if-begins_above.ensures)
