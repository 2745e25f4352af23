use Rattle.std.proofs.Common.{◌≡◌}
use Rattle.rl_store.specs.Views.{IsAtRest}
use Rattle.rl_store_tests.proofs.threads.decide.Given as goal

abbrev pub invariant-loop-turn : goal.invariant-loop-turn
invariant-loop-turn l = (l.pass.table ≡ l.store.table) × IsAtRest l.pass.view
