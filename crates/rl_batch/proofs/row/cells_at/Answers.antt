use Rattle.std.proofs.Common.{◌≡◌, ◌+◌, ◌++◌, ◌∷◌, [], take, set, ℕ, Ok, arith, ap, ◌∙◌}
use Rattle.std.proofs.Math.Seq.{take-suc-set}
use Rattle.std.proofs.lemmas.List.{length-set}
use Rattle.std.proofs.lemmas.Result.{err_from_is_err_and}
use Rattle.rl_fields.specs.declared.fault.ReadError.TheVariants as errors
use Rattle.rl_fields.specs.Fields.{number, several}
use Rattle.rl_fields.proofs.Loops.{several-more, several-fails, several-done}
use Rattle.rl_batch.proofs.row.cells_at.Goals as goal

pub returns-in_err-cell : goal.returns-in_err-cell
returns-in_err-cell c =
    let p = err_from_is_err_and c.from_residual.result c.from_residual.ensures.1 in
    rw (p.1, p.2) (several-fails (number 8) (errors.Fault c.in_err-cell.field-0.0) (take c.loop-i.i c.loop-i.cells) c.args.count c.loop-i.i c.loop-i.rest.now (several (number 8) c.args.count c.args.bytes.now) c.loop-i-test.true c.in_err-cell.ensures c.loop-i.invariant.1)

pub loop-i-preserved : goal.loop-i-preserved
loop-i-preserved c =
    let more = several-more (number 8) (take c.loop-i.i c.loop-i.cells) c.args.count c.loop-i.i c.loop-i.rest.now c.in_ok-cell.cell c.in_ok-cell.after.now (several (number 8) c.args.count c.args.bytes.now) c.loop-i-test.true c.in_ok-cell.ensures c.loop-i.invariant.1 in
    let front : take (c.loop-i.i + 1) (set c.loop-i.cells c.loop-i.i c.in_ok-cell.cell) ≡ take c.loop-i.i c.loop-i.cells ++ c.in_ok-cell.cell ∷ [] = grind (arith, take-suc-set) in
    (omega (arith, length-set c.loop-i.cells c.loop-i.i c.in_ok-cell.cell), rw front more)

pub returns : goal.returns
returns c =
    let whole : c.loop-i.i ≡ c.args.count = omega arith in
    several-done (number 8) (take c.loop-i.i c.loop-i.cells) c.args.count c.loop-i.i c.loop-i.rest.now (several (number 8) c.args.count c.args.bytes.now) c.loop-i-test.false c.loop-i.invariant.1
    ∙ ap (λ (n : ℕ). Ok (take n c.loop-i.cells, c.loop-i.rest.now)) whole
