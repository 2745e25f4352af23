use Rattle.std.proofs.Common.{arith, ◌+◌, sym, ap, ◌∙◌, subst}
use Rattle.std.specs.Prelude.{None}
use Rattle.rl_value.specs.Cells.{cells_of}
use Rattle.rl_store.specs.Opening.{Filled}
use Rattle.rl_store.proofs.Filling.{filled_more, past_end, within}
use Rattle.rl_store.proofs.make.opening_words.Goals as goal

pub loop-r-preserved : goal.loop-r-preserved
loop-r-preserved c =
    let more = c.loop-r-test.true in
    let row = within c.args.rows.now c.loop-r.r None c.index-rows-r.result (grind (arith, more, c.requires.lengths)) c.index-rows-r.is in
    subst (Filled (c.loop-r.r + 1) c.args.columns.now c.args.stamps.now c.args.rows.now) (sym c.in_ok-push_record.ensures)
    (filled_more _ _ _ _ _ c.loop-r.invariant _ (c.of_row-cells.ensures ∙ ap (cells_of _) (sym row)) (past_end _ c.requires.columns))
