use Rattle.rl_families_tests.proofs.Rising.{rise_from}
use Rattle.rl_families_tests.proofs.arrivals.items_from.Goals as goal

pub returns : goal.returns
returns c = rise_from c.loop-i.items c.args.first.epoch c.args.first.seq c.loop-i.invariant.stamps
