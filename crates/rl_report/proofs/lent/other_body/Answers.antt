use Rattle.std.proofs.Common.{sym, ◌∙◌}
use Rattle.rl_report.specs.Words.{lines_in}
use Rattle.rl_report.proofs.LentLemmas.{body_title}
use Rattle.rl_report.proofs.lent.other_body.Goals as goal

pub returns-in-Ok-clause-title : goal.returns-in-Ok-clause-title
returns-in-Ok-clause-title c = λ is. c.requires.title (sym (body_title c.args.title (lines_in c.args.text.now) (c.in-Ok.report, lines_in c.in-Ok.rest.now) c.in-Ok.ensures) ∙ is)
