use Rattle.std.proofs.Common.{subst}
use Rattle.std.proofs.lemmas.List.Elements.{All-more}
use Rattle.rl_txn.specs.declared.write.Write.{Write}
use Rattle.rl_fields.proofs.Appends.{appended_more}
use Rattle.rl_batch.specs.Encoding.{write_bytes}
use Rattle.rl_batch.specs.Ranges.{WriteHasWords}
use Rattle.rl_batch.proofs.write.push_writes.Goals as goal

pub loop-write-preserved : goal.loop-write-preserved
loop-write-preserved c = (
  appended_more write_bytes c.args.writes.now c.loop-write.write-index c.write-item.result c.push_u8.new.out c.loop-write.out c.push_write.new.out c.loop-write-test.true c.write-item.is c.loop-write.invariant.0 c.in_ok-push_write.ensures.encoded,
  All-more (λ (w : Write). WriteHasWords w) c.args.writes.now c.loop-write.write-index c.write-item.result c.loop-write-test.true c.loop-write.invariant.1 (subst (λ (w : Write). WriteHasWords w) c.write-item.is c.in_ok-push_write.ensures.words),
)
