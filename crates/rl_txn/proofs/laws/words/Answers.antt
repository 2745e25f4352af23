use Rattle.rl_txn.proofs.Words.{answer_words, items_have_words, rows_have_words}
use Rattle.rl_txn.proofs.laws.words.Goals as goal

pub returns-clause-answers : goal.returns-clause-answers
returns-clause-answers c = λ tables txn rows fits words. answer_words tables rows words txn fits

pub returns-clause-items : goal.returns-clause-items
returns-clause-items c = λ tables lists rows items fit words runs. items_have_words tables lists fit rows items words runs

pub returns-clause-rows : goal.returns-clause-rows
returns-clause-rows c = rows_have_words
