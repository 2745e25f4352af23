use Rattle.std.proofs.Common.{sym, subst, arith}
use Rattle.rl_value.specs.Fits.{RowsFit}
use Rattle.rl_threads_tests.proofs.Fitting.{fit_none, fit_mod}
use Rattle.rl_threads_tests.proofs.family.opening_rows.Goals as goal

pub loop-key-init : goal.loop-key-init
loop-key-init c = subst (RowsFit c.args.schema.now) (sym c.new-map.ensures) (fit_none c.args.schema.now)

pub loop-key-preserved : goal.loop-key-preserved
loop-key-preserved c =
    subst (RowsFit c.args.schema.now) (sym c.in_ok-put.ensures.ok)
    (fit_mod c.args.schema.now c.loop-key.map _ c.size.result _ c.loop-key.invariant c.requires c.size.ensures.size (let s = c.size.ensures.some in omega arith) c.row_of.ensures)
