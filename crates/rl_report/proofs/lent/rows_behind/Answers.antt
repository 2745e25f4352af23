use Rattle.std.proofs.Common.{[], ◌∷◌, ◌++◌, refl, sym, ◌∙◌, arith, length-append}
use Rattle.std.proofs.lemmas.Result.{err_from_is_err_and}
use Rattle.rl_report.specs.Words.{lines_in}
use Rattle.rl_report.proofs.Loops.{stopped}
use Rattle.rl_report.proofs.LentLemmas.{left_first, left_next, left_fault, left_end, all_there, are_rows}
use Rattle.rl_report.proofs.lent.rows_behind.Goals as goal

pub rows-init : goal.rows-init
rows-init c = ([], left_first (lines_in c.args.text.now), refl, omega arith)

pub rows-preserved : goal.rows-preserved
rows-preserved c =
    let i = c.rows.invariant in
    let row = c.in_ok-_row._row in (
      i.0 ++ row ∷ [],
      left_next (lines_in c.args.text.now) (lines_in c.rows.rest.now) (lines_in c.in_ok-_row.after.now) i.0 row i.1 (sym c.in_ok-comes.ensures ∙ c.if-not-comes.false) c.in_ok-_row.ensures.row,
      omega (arith, i.2, length-append i.0 (row ∷ [])),
      omega (arith, i.3, c.in_ok-_row.ensures.shorter, length-append i.0 (row ∷ [])),
    )

pub returns-then-not-comes-clause-rows : goal.returns-then-not-comes-clause-rows
returns-then-not-comes-clause-rows c =
    let i = c.rows.invariant in
    all_there (lines_in c.args.text.now) (lines_in c.rows.rest.now) i.0 (left_end (lines_in c.args.text.now) (lines_in c.rows.rest.now) i.0 i.1 (sym c.in_ok-comes.ensures ∙ c.if-not-comes.true))

pub returns-in_err-_row-clause-rows : goal.returns-in_err-_row-clause-rows
returns-in_err-_row-clause-rows c =
    let i = c.rows.invariant in
    let p = err_from_is_err_and c.from_residual-in_err-_row.result c.from_residual-in_err-_row.ensures.1 in
    rw (p.1, p.2) (stopped c.in_err-_row.field-0.0 _ _
    (λ fault wrong. left_fault (lines_in c.args.text.now) (lines_in c.rows.rest.now) i.0 fault i.1 (sym c.in_ok-comes.ensures ∙ c.if-not-comes.false) wrong) c.in_err-_row.ensures.row)

pub invariant_of-result : goal.invariant_of-result
invariant_of-result c =
    let i = c.rows.invariant in
    are_rows (lines_in c.args.text.now) (lines_in c.rows.rest.now) i.0 c.rows.count (left_end (lines_in c.args.text.now) (lines_in c.rows.rest.now) i.0 i.1 (sym c.in_ok-comes.ensures ∙ c.if-not-comes.true)) i.2
