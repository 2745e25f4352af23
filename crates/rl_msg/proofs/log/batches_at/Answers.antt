use Rattle.std.proofs.Common.{◌≡◌, ◌++◌, ◌∷◌, []}
use Rattle.std.proofs.lemmas.Result.{err_from_is_err_and}
use Rattle.rl_fields.specs.Fields.{several}
use Rattle.rl_fields.proofs.Loops.{several-more, several-fails, several-done}
use Rattle.rl_msg.specs.Reading.{embedded_batch}
use Rattle.rl_msg.proofs.log.batches_at.Goals as goal

pub returns-in_err-batch : goal.returns-in_err-batch
returns-in_err-batch c =
    let p = err_from_is_err_and c.from_residual.result c.from_residual.ensures.1 in
    rw (p.1, p.2) (several-fails embedded_batch c.in_err-batch.field-0.0 c.loop-batch.log.items c.args.count c.loop-batch._batch c.loop-batch.rest.now (several embedded_batch c.args.count c.args.bytes.now) c.loop-batch-test.true c.in_err-batch.ensures c.loop-batch.invariant)

pub loop-batch-preserved : goal.loop-batch-preserved
loop-batch-preserved c =
    let pushed : c.push.new.self.items ≡ c.loop-batch.log.items ++ c.in_ok-batch.batch ∷ [] = c.in_ok-push.ensures.items in
    rw pushed (several-more embedded_batch c.loop-batch.log.items c.args.count c.loop-batch._batch c.loop-batch.rest.now c.in_ok-batch.batch c.in_ok-batch.after.now (several embedded_batch c.args.count c.args.bytes.now) c.loop-batch-test.true c.in_ok-batch.ensures c.loop-batch.invariant)

pub returns : goal.returns
returns c = rw c.from_vec.ensures (several-done embedded_batch c.loop-batch.log.items c.args.count c.loop-batch._batch c.loop-batch.rest.now (several embedded_batch c.args.count c.args.bytes.now) c.loop-batch-test.false c.loop-batch.invariant)
