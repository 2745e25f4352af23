use Rattle.std.proofs.Common.{All}
use Rattle.rl_txn.specs.Fits.{TxnFits}
use Rattle.rl_store_tests.proofs.requests.requests.Given as goal

abbrev pub invariant-loop-k : goal.invariant-loop-k
invariant-loop-k l = All (TxnFits l.schema) l.list
