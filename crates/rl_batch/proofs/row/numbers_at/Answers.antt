use Rattle.std.proofs.Common.{◌≡◌, ◌++◌, ◌∷◌, []}
use Rattle.std.proofs.lemmas.Result.{err_from_is_err_and}
use Rattle.rl_fields.specs.declared.fault.ReadError.TheVariants as errors
use Rattle.rl_fields.specs.Fields.{number, several}
use Rattle.rl_fields.proofs.Loops.{several-more, several-fails, several-done}
use Rattle.rl_batch.proofs.row.numbers_at.Goals as goal

pub returns-in_err-number : goal.returns-in_err-number
returns-in_err-number c =
    let p = err_from_is_err_and c.from_residual-in_err-number.result c.from_residual-in_err-number.ensures.1 in
    rw (p.1, p.2) (several-fails (number 8) (errors.Fault c.in_err-number.field-0.0) c.loop-number.numbers.items c.args.count c.loop-number._number c.loop-number.rest.now (several (number 8) c.args.count c.args.bytes.now) c.loop-number-test.true c.in_err-number.ensures c.loop-number.invariant)

pub loop-number-preserved : goal.loop-number-preserved
loop-number-preserved c =
    let pushed : c.push.new.self.items ≡ c.loop-number.numbers.items ++ c.in_ok-number.number ∷ [] = c.in_ok-push.ensures.items in
    rw pushed (several-more (number 8) c.loop-number.numbers.items c.args.count c.loop-number._number c.loop-number.rest.now c.in_ok-number.number c.in_ok-number.after.now (several (number 8) c.args.count c.args.bytes.now) c.loop-number-test.true c.in_ok-number.ensures c.loop-number.invariant)

pub returns : goal.returns
returns c = rw c.from_vec.ensures (several-done (number 8) c.loop-number.numbers.items c.args.count c.loop-number._number c.loop-number.rest.now (several (number 8) c.args.count c.args.bytes.now) c.loop-number-test.false c.loop-number.invariant)
