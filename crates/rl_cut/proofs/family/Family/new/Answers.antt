use Rattle.rl_cut.proofs.Growing.{keeps_none}
use Rattle.rl_cut.proofs.family.Family.new.Goals as goal

pub invariant_of-result : goal.invariant_of-result
invariant_of-result c =
    keeps_none c.loop-stream.logs.items c.loop-stream.reached.items c.new-2.result.items c.loop-stream.counted.items c.new-3.result c.loop-stream._stream c.loop-stream.invariant.logs c.loop-stream.invariant.reached c.new-2.ensures.items c.loop-stream.invariant.counted c.new-3.ensures
