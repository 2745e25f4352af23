use Rattle.std.proofs.Common.{◌≡◌}
use Rattle.rl_store.specs.Views.{IsAtRest}
use Rattle.rl_store_tests.proofs.threads.work.Given as goal

abbrev pub invariant-loop-txn : goal.invariant-loop-txn
invariant-loop-txn l = (l.pass.table ≡ l.store.table) × IsAtRest l.pass.view
