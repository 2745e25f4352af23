use Rattle.std.proofs.Common.{All}
use Rattle.rl_txn.specs.Fits.{TxnFits}
use Rattle.rl_store_tests.proofs.requests.all_requests.Given as goal

abbrev pub invariant-loop-w : goal.invariant-loop-w
invariant-loop-w l = All (All (TxnFits l.schema)) l.lists.items
