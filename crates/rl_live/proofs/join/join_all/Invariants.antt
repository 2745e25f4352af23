use Rattle.std.proofs.Common.{◌≡◌, ◌++◌, ℕ, length}
use Rattle.std.specs.Vec.Iter.{into_iter_items}
use Rattle.atomic_table.specs.Seated.{TableId}
use Rattle.rl_store.specs.Views.{IsAtRest}
use Rattle.rl_live.specs.Handing.{AllFrom, IsEndAs, IsJoined}
use Rattle.rl_live.proofs.join.join_all.Given as goal

-- the first workers are joined
abbrev pub invariant-loop-result : goal.invariant-loop-result
invariant-loop-result l = record {
  all : l.yielded ++ into_iter_items l.result-iterator ≡ l.fn.results.items;
  own : l.pass.table ≡ l.store.table;
  rest : IsAtRest l.pass.view;
  many : length l.nodes ≡ l.script.nodes;
  joined : (progress : TableId) (tries : ℕ) → AllFrom (IsEndAs l.script l.store progress tries) 1 l.fn.results.items
      → IsJoined l.script l.store progress tries (length l.yielded) l.fn.pass l.pass l.nodes;
}
