use Rattle.std.proofs.Common.{◌≡◌, ◌++◌}
use Rattle.std.specs.Vec.Iter.{into_iter_items}
use Rattle.rl_store.specs.Views.{IsAtRest}
use Rattle.rl_store_tests.proofs.threads.join_all.Given as goal

-- the passes so far were joined
abbrev pub invariant-loop-done : goal.invariant-loop-done
invariant-loop-done l = record {
  table : l.pass.table ≡ l.store.table;
  rest : IsAtRest l.pass.view;
  all : l.yielded ++ into_iter_items l.done-iterator ≡ l.fn.ended.items;
}
