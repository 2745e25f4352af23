use Rattle.rl_txn.proofs.Answers.{answer_fits, items_fit}
use Rattle.rl_txn.proofs.laws.answers.Goals as goal

pub returns-clause-fit : goal.returns-clause-fit
returns-clause-fit c = answer_fits

pub returns-clause-items : goal.returns-clause-items
returns-clause-items c = λ tables lists rows items fit runs. items_fit tables lists fit rows items runs
