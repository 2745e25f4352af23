use Rattle.std.proofs.Common.{map}
use Rattle.rl_report.proofs.LentLemmas.{plain_head}
use Rattle.rl_report.proofs.lent.plain_number.Goals as goal

pub returns-in-Ok : goal.returns-in-Ok
returns-in-Ok c = plain_head c.args.number (map (λ w. w.now) c.args.words.now) c.in-Ok.node c.in-Ok.field-0-1 c.in-Ok.ensures
