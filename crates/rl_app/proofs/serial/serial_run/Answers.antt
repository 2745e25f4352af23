use Rattle.std.proofs.Common.{◌≡◌, List, [], ap, ◌∙◌}
use Rattle.std.proofs.lemmas.Result.{IfOk-weaker}
use Rattle.rl_value.specs.Rows.{Rows}
use Rattle.rl_report.specs.Printed.{printed}
use Rattle.rl_report.specs.declared.middle.Middle.{Middle}
use Rattle.rl_report.specs.declared.report.Title.TheVariants.{Serial}
use Rattle.rl_app.specs.Reports.{run_report}
use Rattle.rl_app.specs.Serial.{IsReport}
use Rattle.rl_app.proofs.Reported.{serial_form}
use Rattle.rl_app.proofs.serial.serial_run.Goals as goal

pub print_run-requires : goal.print_run-requires
print_run-requires c =
    serial_form c.args.script.schema c.in_ok-items.rows c.in_ok-items.items c.new.result c.requires.tables c.new.ensures

pub returns : goal.returns
returns c =
    let script = c.args.script in
    let items = c.in_ok-items.items in
    let rows = c.in_ok-items.rows in
    IfOk-weaker c.print_run.result (λ text. text ≡ printed (run_report Serial c.new.result items script.schema rows)) (IsReport script) (λ text is. record {
      items = items;
      ran = c.in_ok-items.ensures.items;
      printed = is ∙ ap (λ (refused : List Middle). printed (run_report Serial refused items script.schema rows)) c.new.ensures
          ∙ ap (λ (r : Rows). printed (run_report Serial [] items script.schema r)) c.in_ok-items.ensures.rows;
    }) c.print_run.ensures
