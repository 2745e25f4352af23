use Rattle.rl_node.proofs.Leaders.{acknowledged_grows}
use Rattle.rl_node.proofs.acking.count.Goals as goal

pub returns-clause-grows : goal.returns-clause-grows
returns-clause-grows c =
    acknowledged_grows c.index_mut-stream.result.now c.args.ack.from c.args.ack.len c.chosen_len-before.result c.ack-after.result
    c.chosen_len-before.ensures.acknowledged c.ack-after.new.self c.ack-after.ensures.counted c.ack-after.ensures.acknowledged
