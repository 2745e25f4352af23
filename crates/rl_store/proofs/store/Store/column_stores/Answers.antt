use Rattle.std.proofs.Common.{◌≡◌, ◌+◌, ◌++◌, [], ◌∷◌, take, length-take-le, sym, ap, ◌∙◌, subst, arith}
use Rattle.std.proofs.lemmas.List.{take_more}
use Rattle.rl_store.specs.declared.view.View.{View}
use Rattle.rl_store.specs.Storing.{with_cells}
use Rattle.rl_store.specs.Passes.{HasStored}
use Rattle.rl_store.specs.Views.{with_cell}
use Rattle.rl_store.specs.Entries.{IsDecided}
use Rattle.rl_store.proofs.Puts.{all_in, all_more}
use Rattle.rl_store.proofs.store.Store.column_stores.Goals as goal

pub column_store-requires-clause-held : goal.column_store-requires-clause-held
column_store-requires-clause-held c =
    let xs = take c.loop-cell.cell c.args.cells.now in
    let test = c.loop-cell-test.true in
    let long = c.len-cell-end.ensures.count in
    (xs, grind (arith, length-take-le, test, long), subst (λ (v : View). HasStored v c.args.rec xs) (sym c.loop-cell.invariant.1) (all_in c.args.rec xs [] c.args.pass.now.view c.requires.held))

pub column_store-requires-clause-decided : goal.column_store-requires-clause-decided
column_store-requires-clause-decided c = subst (λ (v : View). IsDecided v.attempt) (sym c.loop-cell.invariant.1) c.requires.decided

pub loop-cell-preserved : goal.loop-cell-preserved
loop-cell-preserved c =
    let xs = take c.loop-cell.cell c.args.cells.now in
    let v = c.args.pass.now.view in
    let test = c.loop-cell-test.true in
    let long = c.len-cell-end.ensures.count in
    let one : xs ++ c.get_or_zero.result ∷ [] ≡ take (c.loop-cell.cell + 1) c.args.cells.now = ap (λ n. xs ++ n ∷ []) c.get_or_zero.ensures ∙ sym (take_more c.args.cells.now c.loop-cell.cell 0 (omega arith)) in (
      c.column_store.ensures.table ∙ c.loop-cell.invariant.0,
      c.column_store.ensures.stored ∙ ap (λ u. with_cell u c.args.rec c.get_or_zero.result) c.loop-cell.invariant.1 ∙ (λ i. record v { attempt = record v.attempt { held = all_more c.args.rec c.get_or_zero.result xs v.attempt.held i } }) ∙ ap (with_cells v c.args.rec) one,
    )
