use Rattle.std.proofs.Common.{Some, None}
use Rattle.rl_txn.proofs.Evals.{with_wants, stands}
use Rattle.rl_txn.proofs.eval.Eval.advance.Goals as goal

pub run_on-wants-requires-clause-of : goal.run_on-wants-requires-clause-of
run_on-wants-requires-clause-of c = with_wants c.args.schema.now c.args.txn.now c.args.self.now None c.requires.of tt

pub returns-clause-of : goal.returns-clause-of
returns-clause-of c = with_wants c.args.schema.now c.args.txn.now c.run_on-wants.new.self (Some c.run_on-wants.result) c.run_on-wants.ensures.of c.run_on-wants.ensures.asked

pub returns-clause-stands : goal.returns-clause-stands
returns-clause-stands c = stands c.args.schema.now c.args.txn.now c.run_on-wants.new.self c.run_on-wants.result c.requires.fits c.run_on-wants.ensures.of c.run_on-wants.ensures.asked
