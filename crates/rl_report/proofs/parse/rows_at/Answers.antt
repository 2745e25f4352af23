use Rattle.std.proofs.Common.{◌∷◌, [], length, sym, ap, ◌∙◌, arith, length-append}
use Rattle.std.proofs.lemmas.Result.{err_from_is_err_and}
use Rattle.rl_report.specs.Read.{rows}
use Rattle.rl_report.specs.Words.{lines_in}
use Rattle.rl_report.proofs.Loops.{values_left, onto_nothing, left_more, left_wrong, left_done, stopped}
use Rattle.rl_report.proofs.Shorter.{more_rows, read_row, rows_shorter}
use Rattle.rl_report.proofs.parse.rows_at.Goals as goal

pub rows-init : goal.rows-init
unfolding rows
rows-init c = record {
  same = ap (λ xs. values_left more_rows read_row xs (lines_in c.args.text.now)) c.new-rows.ensures ∙ onto_nothing _;
  shorter = omega (arith, ap length c.new-rows.ensures);
}

pub returns-then-not-comes-clause-rows : goal.returns-then-not-comes-clause-rows
returns-then-not-comes-clause-rows c =
    sym c.rows.invariant.same ∙ left_done more_rows read_row rows_shorter c.rows.rows (lines_in c.rows.rest.now) (sym c.in_ok-comes.ensures ∙ c.if-not-comes.true)

pub returns-in_err-row-clause-rows : goal.returns-in_err-row-clause-rows
returns-in_err-row-clause-rows c =
    let p = err_from_is_err_and c.from_residual-in_err-row.result c.from_residual-in_err-row.ensures.1 in
    rw (p.1, p.2) (stopped c.in_err-row.field-0.0 _ _
    (λ fault wrong. sym c.rows.invariant.same ∙ left_wrong more_rows read_row rows_shorter c.rows.rows (lines_in c.rows.rest.now) fault (sym c.in_ok-comes.ensures ∙ c.if-not-comes.false) wrong) c.in_err-row.ensures.row)

pub rows-preserved : goal.rows-preserved
rows-preserved c = record {
  same = left_more more_rows read_row rows_shorter c.rows.rows c.push.new.self c.in_ok-row.row (lines_in c.rows.rest.now) (lines_in c.in_ok-row.after.now) (sym c.in_ok-comes.ensures ∙ c.if-not-comes.false) c.in_ok-row.ensures.row c.in_ok-push.ensures.ok
      ∙ c.rows.invariant.same;
  shorter = omega (arith, c.rows.invariant.shorter, c.in_ok-row.ensures.shorter, ap length c.in_ok-push.ensures.ok, length-append c.rows.rows (c.in_ok-row.row ∷ []));
}
