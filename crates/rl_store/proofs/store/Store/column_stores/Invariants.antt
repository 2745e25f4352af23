use Rattle.std.proofs.Common.{◌≡◌, take}
use Rattle.rl_store.specs.Storing.{with_cells}
use Rattle.rl_store.proofs.store.Store.column_stores.Given as goal

-- the cells so far are stored
abbrev pub invariant-loop-cell : goal.invariant-loop-cell
invariant-loop-cell l = (l.pass.table ≡ l.fn.pass.table) × (l.pass.view ≡ with_cells l.fn.pass.view l.rec (take l.cell l.cells))
