use Rattle.std.proofs.Common.{[]}
use Rattle.rl_report.specs.Lines.{row_lines_of_table}
use Rattle.rl_report.proofs.Ranges.{list_over_range}
use Rattle.rl_report.proofs.rows.row_lines.Goals as goal

pub loop-t-preserved : goal.loop-t-preserved
loop-t-preserved c =
    list_over_range (row_lines_of_table c.args.schema.now c.args.rows.now) c.loop-t.t [] _ _ c.loop-t.invariant c.in_ok-push_rows_of.ensures
