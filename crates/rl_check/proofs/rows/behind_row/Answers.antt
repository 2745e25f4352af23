use Rattle.std.proofs.Common.{◌≡◌, [], ◌∷◌, refl}
use Rattle.std.specs.Option.{option_copied}
use Rattle.rl_report.specs.Lines.{row_line}
use Rattle.rl_report.specs.declared.line.RowLine.{RowLine}
use Rattle.rl_check.proofs.DueLemmas.{differ_none, differ_as}
use Rattle.rl_check.proofs.rows.behind_row.Goals as goal

pub returns-in-Ok-None : goal.returns-in-Ok-None
returns-in-Ok-None c =
    let one : RowLine = record { table = c.args.name.now; key = c.args.key; row = c.in-Some.row.now } in
    let due : one ∷ [] ≡ row_line c.args.name.now c.args.key (option_copied c.args.row) = rw c.in-Some.is refl in
    differ_as (one ∷ []) (row_line c.args.name.now c.args.key (option_copied c.args.row)) c.args.lines c.args.lines due
    (differ_none one c.args.lines (rw c.in-Ok-None.field-0-is at c.in-Ok-None.ensures))
