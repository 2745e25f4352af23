use Rattle.std.proofs.Common.{◌∙◌, refl}
use Rattle.std.specs.FinMap as finite
use Rattle.rl_value.specs.Tables.{name_of}
use Rattle.rl_script.specs.Printed.{row_lines}
use Rattle.rl_script.proofs.PrintLemmas.{text_over_range}
use Rattle.rl_script.proofs.printed.push_rows_of.Goals as goal

pub loop-key-preserved : goal.loop-key-preserved
loop-key-preserved c =
    text_over_range (λ key. row_lines (name_of c.args.schema.now c.args.t) key (finite.get c.args.rows.now (c.args.t, key))) c.loop-key.key _ _ _ c.loop-key.invariant
    (c.in_ok-push_row.ensures ∙ rw (c.name.ensures, c.get.ensures) refl)
