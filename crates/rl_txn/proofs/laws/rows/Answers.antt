use Rattle.rl_txn.proofs.Answers.{rows_fit, serial_rows_fit}
use Rattle.rl_txn.proofs.laws.rows.Goals as goal

pub returns-clause-fit : goal.returns-clause-fit
returns-clause-fit c = rows_fit

pub returns-clause-serial : goal.returns-clause-serial
returns-clause-serial c = λ tables lists rows items fit rows_fit runs. serial_rows_fit tables lists fit rows items rows_fit runs
