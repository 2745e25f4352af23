use Rattle.rl_report.specs.Lent.{lent_report}
use Rattle.rl_report.proofs.Both.{printed_so, form_so}
use Rattle.rl_report.proofs.lent.lend_report.Goals as goal

pub returns-in-Ok-clause-form : goal.returns-in-Ok-clause-form
returns-in-Ok-clause-form c = form_so c.args.text.now (lent_report c.in-Ok.report) c.is_ended-ended.result c.is_ended-ended.ensures c.if-ended.true c.in-Ok.ensures.lines

pub returns-in-Ok-clause-printed : goal.returns-in-Ok-clause-printed
returns-in-Ok-clause-printed c = printed_so c.args.text.now (lent_report c.in-Ok.report) c.is_ended-ended.result c.is_ended-ended.ensures c.if-ended.true c.in-Ok.ensures.lines
