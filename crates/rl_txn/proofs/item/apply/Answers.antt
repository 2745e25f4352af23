use Rattle.std.proofs.Common.{ap, ◌∙◌}
use Rattle.rl_txn.specs.Serial.{with_write}
use Rattle.rl_txn.proofs.Folds.{after_writes_more}
use Rattle.rl_txn.proofs.item.apply.Goals as goal

pub loop-write-preserved : goal.loop-write-preserved
loop-write-preserved c =
    let w = c.write-item.result in
    c.in_ok-apply_write.ensures.ok ∙ ap (λ m. with_write m w) c.loop-write.invariant
    ∙ after_writes_more c.args.m.now _ c.loop-write.write-index w c.loop-write-test.true c.write-item.is
