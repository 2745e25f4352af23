use Rattle.std.proofs.Common.{map, take, ◌+◌, arith}
use Rattle.rl_text.proofs.Texts.{text_joined}
use Rattle.rl_script.specs.Printed.{table_line}
use Rattle.rl_script.proofs.PrintLemmas.{table_more}
use Rattle.rl_script.proofs.printed.push_tables.Goals as goal

pub loop-t-preserved : goal.loop-t-preserved
loop-t-preserved c =
    text_joined (map table_line (take c.loop-t.t c.args.schema.now)) _ (map table_line (take (c.loop-t.t + 1) c.args.schema.now)) _ _ _
    (table_more c.args.schema.now c.loop-t.t (omega (arith, c.loop-t-test.true, c.count-t-end.ensures.count))) c.loop-t.invariant c.in_ok-push_table.ensures
