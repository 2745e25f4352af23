use Rattle.std.proofs.Common.{◌+◌, arith}
use Rattle.rl_app.proofs.Threads.{block_more}
use Rattle.rl_app.proofs.live.node_blocks.Goals as goal

pub loop-node-preserved : goal.loop-node-preserved
loop-node-preserved c =
    let at = c.loop-node.invariant.0 in (
      omega (arith, at),
      λ rows each. block_more c.args.schema.now rows c.as_slice-node-items.result.now c.loop-node.node-index c.node-item.result c.loop-node-test.true c.node-item.is each
          c.in_ok-node_block.field-0 (c.loop-node.number + 1) (omega (arith, at)) c.in_ok-node_block.ensures c.loop-node.blocks c.push.new.self c.in_ok-push.ensures.ok
          (c.loop-node.invariant.1 rows each),
    )
