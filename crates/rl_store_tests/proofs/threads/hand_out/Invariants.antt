use Rattle.std.proofs.Common.{◌≡◌, ◌++◌, All}
use Rattle.std.specs.Vec.Iter.{into_iter_items}
use Rattle.rl_store.specs.Views.{IsAtRest}
use Rattle.rl_store_tests.specs.Jobs.{IsReady}
use Rattle.rl_store_tests.proofs.threads.hand_out.Given as goal

-- a job for each list so far
abbrev pub invariant-loop-list : goal.invariant-loop-list
invariant-loop-list l = record {
  table : l.pass.table ≡ l.store.table;
  rest : IsAtRest l.pass.view;
  all : l.yielded ++ into_iter_items l.list-iterator ≡ l.fn.lists.items;
  ready : All (IsReady l.store l.schema) l.jobs.items;
}
