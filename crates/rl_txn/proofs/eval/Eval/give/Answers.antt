use Rattle.std.proofs.Common.{◌≡◌, rules, Some}
use Rattle.rl_txn.specs.declared.eval.Wants.TheVariants.{Read}
use Rattle.rl_txn.proofs.Evals.{gave}
use Rattle.rl_txn.proofs.eval.Eval.give.Goals as goal

pub returns-in-Some-Read-clause-of : goal.returns-in-Some-Read-clause-of
returns-in-Some-Read-clause-of c = λ tables txn ev.
    let was : c.args.self.now.wants ≡ Some (Read c.in-Some-Read.table c.in-Some-Read.key) = first_of (search rules, cc) in
    gave tables txn c.args.self.now c.in-Some-Read.table c.in-Some-Read.key c.args.row c.put.new.self ev was c.put.ensures.rows c.put.ensures.room
