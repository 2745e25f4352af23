use Rattle.std.proofs.Common.{◌≡◌, sym, ap, subst, ◌∙◌}
use Rattle.std.proofs.lemmas.Result.{IfOk-weaker}
use Rattle.rl_report.specs.Forms.{IsReport}
use Rattle.rl_report.specs.Printed.{printed}
use Rattle.rl_check.specs.Right.{live_report}
use Rattle.rl_check.proofs.RightLemmas.{live_form}
use Rattle.rl_app.proofs.Threads.{printed_is}
use Rattle.rl_app.proofs.live.print_live.Goals as goal

pub print_report-requires : goal.print_report-requires
print_report-requires c =
    subst IsReport
    (sym (printed_is c.args.script.now c.args.items.now c.in_ok-items.items c.args.nodes.now c.in_ok-blocks.blocks c.new.result c.new-2.result
    c.in_ok-items.ensures c.requires.nodes c.in_ok-blocks.ensures c.new.ensures c.new-2.ensures))
    (live_form c.args.script.now c.requires.fits c.args.items.now)

pub returns : goal.returns
returns c =
    let same = printed_is c.args.script.now c.args.items.now c.in_ok-items.items c.args.nodes.now c.in_ok-blocks.blocks c.new.result c.new-2.result
    c.in_ok-items.ensures c.requires.nodes c.in_ok-blocks.ensures c.new.ensures c.new-2.ensures in
    let due = live_report c.args.script.now c.args.items.now in
    IfOk-weaker c.print_report.result _ (λ text. text ≡ printed due) (λ text is. is ∙ ap printed same) c.print_report.ensures.text
