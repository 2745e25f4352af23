use Rattle.std.proofs.Common.{◌≡◌, ◌++◌, ◌∷◌, []}
use Rattle.std.proofs.lemmas.Result.{err_from_is_err_and}
use Rattle.rl_fields.specs.declared.fault.ReadError.TheVariants as errors
use Rattle.rl_fields.specs.Fields.{series}
use Rattle.rl_fields.proofs.Loops.{series-more, series-fails, series-done}
use Rattle.rl_batch.specs.Reading.{write, place_after}
use Rattle.rl_batch.proofs.write.series_at.Goals as goal

pub returns-in_err-write : goal.returns-in_err-write
returns-in_err-write c =
    let p = err_from_is_err_and c.from_residual-in_err-write.result c.from_residual-in_err-write.ensures.1 in
    rw (p.1, p.2) (series-fails write place_after (errors.Fault c.in_err-write.field-0.0) c.loop-write.writes.items c.args.count c.loop-write._write c.loop-write.least c.loop-write.rest.now (series write place_after c.args.count (0, 0) c.args.bytes.now) c.loop-write-test.true c.in_err-write.ensures.read c.loop-write.invariant)

pub loop-write-preserved : goal.loop-write-preserved
loop-write-preserved c =
    let pushed : c.push.new.self.items ≡ c.loop-write.writes.items ++ c.in_ok-write.write ∷ [] = c.in_ok-push.ensures.items in
    rw pushed (series-more write place_after c.loop-write.writes.items c.args.count c.loop-write._write c.loop-write.least c.loop-write.rest.now c.in_ok-write.write c.in_ok-write.after.now (series write place_after c.args.count (0, 0) c.args.bytes.now) c.loop-write-test.true c.in_ok-write.ensures.read c.loop-write.invariant)

pub returns : goal.returns
returns c = rw c.from_vec.ensures (series-done write place_after c.loop-write.writes.items c.args.count c.loop-write._write c.loop-write.least c.loop-write.rest.now (series write place_after c.args.count (0, 0) c.args.bytes.now) c.loop-write-test.false c.loop-write.invariant)
