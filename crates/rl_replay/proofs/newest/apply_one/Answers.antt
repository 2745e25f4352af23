use Rattle.std.proofs.Common.{ap, sym, ◌∙◌}
use Rattle.std.specs.FinMap as finite
use Rattle.rl_replay.specs.Newest.{Newest}
use Rattle.rl_replay.proofs.Stamped.{one_stamp}
use Rattle.rl_replay.proofs.newest.apply_one.Goals as goal

pub returns-clause-stamps : goal.returns-clause-stamps
returns-clause-stamps c = λ q. ap (λ (n : Newest). finite.get n q) c.in_ok-put.ensures.ok ∙ one_stamp c.args.newest.now c.args.stamp c.args.write.now q (sym c.if-is_old.ensures)
