use Rattle.std.proofs.Common.{ap, sym, ◌∙◌, Some}
use Rattle.std.specs.FinMap as finite
use Rattle.rl_txn.specs.declared.row_set.RowAt.{RowAt}
use Rattle.rl_txn.proofs.RowSets.{got_here, got_gap}
use Rattle.rl_txn.proofs.row_set.RowSet.get.Goals as goal

pub returns-in-Ok : goal.returns-in-Ok
returns-in-Ok c =
    ap (λ (z : RowAt). Some z.row) (sym c.index-deref-at.is) ∙ got_here c.self.inside.rows.items c.deref.result.now (c.args.table, c.args.key) c.in-Ok.at c.index-deref-at.result c.self.invariant c.deref.ensures
    c.in-Ok.ensures.within c.in-Ok.ensures.found (rw c.deref-in-Ok.ensures at c.index-deref-at.is)
    ∙ ap (λ s. finite.get s.0 (c.args.table, c.args.key)) c.self.view_is

pub returns-in-Err : goal.returns-in-Err
returns-in-Err c =
    got_gap c.self.inside.rows.items c.deref.result.now (c.args.table, c.args.key) c.in-Err.field-0 c.self.invariant c.deref.ensures c.in-Err.ensures.between
    ∙ ap (λ s. finite.get s.0 (c.args.table, c.args.key)) c.self.view_is
