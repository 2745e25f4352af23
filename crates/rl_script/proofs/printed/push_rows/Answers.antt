use Rattle.rl_script.specs.Printed.{rows_of_table}
use Rattle.rl_script.proofs.PrintLemmas.{text_over_range}
use Rattle.rl_script.proofs.printed.push_rows.Goals as goal

pub loop-t-preserved : goal.loop-t-preserved
loop-t-preserved c = text_over_range (rows_of_table c.args.schema.now c.args.rows.now) c.loop-t.t _ _ _ c.loop-t.invariant c.in_ok-push_rows_of.ensures
