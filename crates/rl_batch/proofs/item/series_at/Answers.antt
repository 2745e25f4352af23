use Rattle.std.proofs.Common.{◌≡◌, ◌++◌, ◌∷◌, []}
use Rattle.std.proofs.lemmas.Result.{err_from_is_err_and}
use Rattle.rl_fields.specs.Fields.{series}
use Rattle.rl_fields.proofs.Loops.{series-more, series-fails, series-done}
use Rattle.rl_batch.specs.Reading.{item, seq_after}
use Rattle.rl_batch.proofs.item.series_at.Goals as goal

pub returns-in_err-item : goal.returns-in_err-item
returns-in_err-item c =
    let read = item c.args.shared.epoch c.args.shared.worker in
    let p = err_from_is_err_and c.from_residual-in_err-item.result c.from_residual-in_err-item.ensures.1 in
    rw (p.1, p.2) (series-fails read seq_after c.in_err-item.field-0.0 c.loop-item.items.items c.args.count c.loop-item._item c.loop-item.least c.loop-item.rest.now (series read seq_after c.args.count 0 c.args.bytes.now) c.loop-item-test.true c.in_err-item.ensures.read c.loop-item.invariant)

pub loop-item-preserved : goal.loop-item-preserved
loop-item-preserved c =
    let read = item c.args.shared.epoch c.args.shared.worker in
    let pushed : c.push.new.self.items ≡ c.loop-item.items.items ++ c.in_ok-item.item ∷ [] = c.in_ok-push.ensures.items in
    rw pushed (series-more read seq_after c.loop-item.items.items c.args.count c.loop-item._item c.loop-item.least c.loop-item.rest.now c.in_ok-item.item c.in_ok-item.after.now (series read seq_after c.args.count 0 c.args.bytes.now) c.loop-item-test.true c.in_ok-item.ensures.read c.loop-item.invariant)

pub returns : goal.returns
returns c =
    let read = item c.args.shared.epoch c.args.shared.worker in
    rw c.from_vec.ensures (series-done read seq_after c.loop-item.items.items c.args.count c.loop-item._item c.loop-item.least c.loop-item.rest.now (series read seq_after c.args.count 0 c.args.bytes.now) c.loop-item-test.false c.loop-item.invariant)
