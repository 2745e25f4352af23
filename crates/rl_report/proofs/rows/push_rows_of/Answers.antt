use Rattle.std.proofs.Common.{◌∙◌, refl}
use Rattle.std.specs.FinMap as finite
use Rattle.rl_value.specs.Tables.{name_of}
use Rattle.rl_report.specs.Lines.{row_line}
use Rattle.rl_report.proofs.Ranges.{list_over_range}
use Rattle.rl_report.proofs.rows.push_rows_of.Goals as goal

pub loop-key-preserved : goal.loop-key-preserved
loop-key-preserved c =
    list_over_range (λ key. row_line (name_of c.args.schema.now c.args.t) key (finite.get c.args.rows.now (c.args.t, key))) c.loop-key.key _ _ _ c.loop-key.invariant
    (c.in_ok-push_row.ensures ∙ rw (c.name.ensures, c.get.ensures) refl)
