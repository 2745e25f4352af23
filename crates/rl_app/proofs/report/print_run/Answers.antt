use Rattle.std.proofs.Common.{◌≡◌, sym, ap, subst, ◌∙◌}
use Rattle.std.proofs.lemmas.Result.{IfOk-weaker}
use Rattle.rl_report.specs.Forms.{IsReport}
use Rattle.rl_report.specs.Printed.{printed}
use Rattle.rl_app.specs.Reports.{run_report}
use Rattle.rl_app.proofs.Reported.{run_is}
use Rattle.rl_app.proofs.report.print_run.Goals as goal

pub print_report-requires : goal.print_report-requires
print_report-requires c =
    subst IsReport (sym (run_is c.args.title c.args.refused c.args.items.now c.args.schema.now c.args.rows.now c.in_ok-items.items c.in_ok-tables.tables c.new.result c.in_ok-items.ensures c.in_ok-tables.ensures c.new.ensures)) c.requires

pub returns : goal.returns
returns c =
    let same = run_is c.args.title c.args.refused c.args.items.now c.args.schema.now c.args.rows.now c.in_ok-items.items c.in_ok-tables.tables c.new.result c.in_ok-items.ensures c.in_ok-tables.ensures c.new.ensures in
    let due = run_report c.args.title c.args.refused c.args.items.now c.args.schema.now c.args.rows.now in
    IfOk-weaker c.print_report.result _ (λ text. text ≡ printed due) (λ text is. is ∙ ap printed same) c.print_report.ensures.text
