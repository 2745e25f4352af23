use Rattle.std.proofs.Common.{◌≡◌, ℕ, ◌++◌, List, ap, ◌∙◌, refl, arith}
use Rattle.std.specs.FinMap as finite
use Rattle.std.specs.Option.{option_copied}
use Rattle.rl_value.specs.Tables.{name_of, size_of}
use Rattle.rl_report.specs.Lines.{row_line}
use Rattle.rl_report.specs.declared.line.RowLine.{RowLine}
use Rattle.rl_check.proofs.DueLemmas.{same_more, differ_more, differ_as}
use Rattle.rl_check.proofs.rows.behind_table.Goals as goal

pub returns-in-Err : goal.returns-in-Err
returns-in-Err c =
    let part : ℕ → List RowLine = λ key. row_line (name_of c.args.schema.now c.args.t) key (finite.get c.args.rows.now (c.args.t, key)) in
    let due : row_line c.name.result.now c.loop-key.key (option_copied c.get.result) ≡ part c.loop-key.key = rw (c.name.ensures, c.get.ensures) refl in
    differ_more part c.loop-key.key (size_of c.args.schema.now c.args.t) c.args.lines c.loop-key.left c.in-Err.other (omega (arith, c.size-key-end.ensures.size, c.loop-key-test.true)) c.loop-key.invariant
    (differ_as _ (part c.loop-key.key) c.loop-key.left c.in-Err.other due (rw c.in-Err.is at c.in_ok-behind.ensures))

pub loop-key-preserved : goal.loop-key-preserved
loop-key-preserved c =
    let part : ℕ → List RowLine = λ key. row_line (name_of c.args.schema.now c.args.t) key (finite.get c.args.rows.now (c.args.t, key)) in
    let due : row_line c.name.result.now c.loop-key.key (option_copied c.get.result) ≡ part c.loop-key.key = rw (c.name.ensures, c.get.ensures) refl in
    same_more part c.loop-key.key c.args.lines c.loop-key.left c.in-Ok.behind c.loop-key.invariant
    ((rw c.in-Ok.is at c.in_ok-behind.ensures) ∙ ap (λ ys. ys ++ c.in-Ok.behind) due)
