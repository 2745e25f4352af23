use Rattle.std.proofs.Common.{◌≡◌, ◌/◌, length}
use Rattle.rl_store.specs.Views.{with_reading, reading_of}
use Rattle.rl_store.proofs.store.Store.column_loads.Given as goal

-- the cells so far
abbrev pub invariant-loop-cell : goal.invariant-loop-cell
invariant-loop-cell l =
    (l.pass.table ≡ l.fn.pass.table) × (l.pass.view ≡ with_reading l.fn.pass.view (reading_of l.rec (l.word / 2) l.cells))
    × (length l.cells ≡ l._cell)
