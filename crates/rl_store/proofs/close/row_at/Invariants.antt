use Rattle.std.proofs.Common.{◌≡◌, ℕ, ◌<◌, length, slice_index}
use Rattle.std.specs.Mem.Slots.{slots_items}
use Rattle.rl_store.specs.Layout.{cell_place}
use Rattle.rl_store.proofs.close.row_at.Given as goal

-- the cells so far
abbrev pub invariant-loop-cell : goal.invariant-loop-cell
invariant-loop-cell l =
    (length l.cells ≡ l.cell)
    × ((k : ℕ) → k < l.cell → slice_index (slots_items l.closed.words) (cell_place l.r k) ≡ slice_index l.cells k)
