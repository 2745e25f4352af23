use Rattle.std.proofs.Common.{rules, All, ap, sym, subst, ◌∙◌}
use Rattle.rl_live.specs.Elections.{CanPromise, promising}
use Rattle.rl_live.proofs.Adopting.{still_all, once_more}
use Rattle.rl_live.proofs.election.promise.Goals as goal

pub loop-preserved : goal.loop-preserved
loop-preserved g c = (
  search rules,
  search rules,
  subst (All (CanPromise c.args.epoch)) (sym c.prepare.ensures) (still_all c.args.epoch c.loop.node.items c.loop.invariant.2),
  ap (promising c.args.epoch) c.prepare.ensures ∙ (once_more c.args.epoch c.loop.node.items ∙ c.loop.invariant.3),
)
