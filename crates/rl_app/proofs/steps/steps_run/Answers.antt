use Rattle.std.proofs.Common.{◌≡◌, ap, ◌∙◌}
use Rattle.std.proofs.lemmas.Result.{IfOk-weaker}
use Rattle.rl_txn.specs.Serial.{IsSerial}
use Rattle.rl_report.specs.Printed.{printed}
use Rattle.rl_report.specs.declared.report.Title.TheVariants.{Steps}
use Rattle.rl_app.specs.Reports.{run_report}
use Rattle.rl_app.specs.Runs.{leader_of, core_of, turns_of}
use Rattle.rl_app.specs.Running.{IsRun}
use Rattle.rl_app.specs.Steps.{decided_of, IsStepsReport}
use Rattle.rl_app.proofs.Reported.{steps_form, reported, core_fits, in_lists}
use Rattle.rl_app.proofs.steps.steps_run.Goals as goal

pub print_run-requires : goal.print_run-requires
print_run-requires c =
    let script = c.args.script in
    let run = c.follow.new.self in
    let is : IsRun script.schema script.lists run (core_of script) = c.in_ok-follow.ensures in
    steps_form script.schema c.apply_all.new.rows c.from_vec-items.result run.refused c.requires.tables is.named

pub returns : goal.returns
returns c =
    let script = c.args.script in
    let run = c.follow.new.self in
    let items = c.from_vec-items.result in
    let rows = c.apply_all.new.rows in
    let is : IsRun script.schema script.lists run (core_of script) = c.in_ok-follow.ensures in
    let fits = core_fits script c.requires in
    let serial : IsSerial script.schema script.lists script.rows (decided_of script) =
    c.core_serial.ensures.serial (leader_of script) (turns_of script.events) fits in
    IfOk-weaker c.print_run.result (λ text. text ≡ printed (run_report Steps run.refused items script.schema rows)) (IsStepsReport script) (λ text told. record {
      printed = told ∙ ap printed (reported script run items rows is c.from_vec-items.ensures c.in_ok-apply_all.ensures);
      serial = serial;
      in_lists = in_lists script.schema script.lists script.rows (decided_of script) script.workers c.requires.one_list_each serial.runs
          (c.core_serial.ensures.follow_on (leader_of script) (turns_of script.events) fits);
      causes = c.core_serial.ensures.causes (leader_of script) (turns_of script.events) fits;
    }) c.print_run.ensures
