use Rattle.rl_report.specs.Words.{lines_in}
use Rattle.rl_report.proofs.Loops.{stopped}
use Rattle.rl_report.proofs.LentLemmas.{lent_read, lent_wrong}
use Rattle.rl_report.proofs.lent.lent_at.Goals as goal

pub returns-in-Ok-clause-block : goal.returns-in-Ok-clause-block
returns-in-Ok-clause-block c =
    lent_read c.args.number c.in_ok-node.node (lines_in c.args.text.now) (lines_in c.in_ok-node.behind.now) (lines_in c.in-Ok.rest.now) c.in-Ok.rows c.in_ok-node.ensures.number c.in-Ok.ensures.rows

pub returns-in-Err-clause-block : goal.returns-in-Err-clause-block
returns-in-Err-clause-block c =
    stopped c.in-Err.e _ _ (λ fault wrong. lent_wrong c.args.number c.in_ok-node.node (lines_in c.args.text.now) (lines_in c.in_ok-node.behind.now) fault c.in_ok-node.ensures.number wrong) c.in-Err.ensures.rows
