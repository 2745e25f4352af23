use Rattle.std.proofs.Common.{◌∙◌, sym, arith}
use Rattle.rl_replay.proofs.Applied.{order_goes_on}
use Rattle.rl_replay.proofs.replica.are_in_order.Goals as goal

pub loop-i-preserved : goal.loop-i-preserved
loop-i-preserved c = (
  omega arith,
  order_goes_on c.args.items.now c.loop-i.i c.loop-i.invariant.0 (omega (arith, c.loop-i-test.true)) c.loop-i.invariant.1 c.index-items-i.result c.index-items-i-in-loop-i.result (sym c.is_below.ensures ∙ c.if-is_below.false),
)
