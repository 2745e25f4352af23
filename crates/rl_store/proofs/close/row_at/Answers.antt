use Rattle.std.proofs.Common.{◌≡◌, ◌+◌, ◌++◌, [], ◌∷◌, List, ℕ, ◌<◌, length, slice_index, length-append, sym, ap, ◌∙◌, subst, arith}
use Rattle.std.specs.Mem.Slots.{slots_items}
use Rattle.rl_store.specs.Layout.{cell_place}
use Rattle.rl_store.proofs.Loads.{more_same}
use Rattle.rl_store.proofs.Views.{at_get}
use Rattle.rl_store.proofs.close.row_at.Goals as goal

pub loop-cell-preserved : goal.loop-cell-preserved
loop-cell-preserved c =
    let ws = slots_items c.args.closed.now.words in
    let cells = c.loop-cell.cells in
    let found = c.word.result in
    let long = c.loop-cell.invariant.0 in
    let here : slice_index ws (cell_place c.args.r c.loop-cell.cell) ≡ found = at_get ws _ found 0 c.word.ensures in
    let pushed : c.push.new.self ≡ cells ++ found ∷ [] = c.push.ensures in
    subst (λ (l : List ℕ). (length l ≡ c.loop-cell.cell + 1) × ((k : ℕ) → k < c.loop-cell.cell + 1 → slice_index ws (cell_place c.args.r k) ≡ slice_index l k)) (sym pushed) (
      (let a = length-append cells (found ∷ []) in omega arith),
      λ k l. sym (more_same cells found k (λ j. slice_index ws (cell_place c.args.r j)) (λ j m. sym (c.loop-cell.invariant.1 j (omega arith))) (sym here ∙ ap (λ n. slice_index ws (cell_place c.args.r n)) (sym long)) (let a = length-append cells (found ∷ []) in omega arith)),
    )
