use Rattle.std.proofs.Common.{◌<◌, length, arith}
use Rattle.rl_report.specs.Lines.{row_lines_of_table}
use Rattle.rl_check.proofs.DueLemmas.{same_more, differ_more}
use Rattle.rl_check.proofs.rows.behind_rows.Goals as goal

pub returns-in-Err : goal.returns-in-Err
returns-in-Err c =
    let within : c.loop-t.t < length c.args.schema.now = omega (arith, c.count-t-end.ensures.count, c.loop-t-test.true) in
    let is = rw c.in-Err.is at c.in_ok-behind.ensures in
    differ_more (row_lines_of_table c.args.schema.now c.args.rows.now) c.loop-t.t (length c.args.schema.now) c.args.lines c.loop-t.left c.in-Err.other within c.loop-t.invariant is

pub loop-t-preserved : goal.loop-t-preserved
loop-t-preserved c =
    let is = rw c.in-Ok.is at c.in_ok-behind.ensures in
    same_more (row_lines_of_table c.args.schema.now c.args.rows.now) c.loop-t.t c.args.lines c.loop-t.left c.in-Ok.behind c.loop-t.invariant is
