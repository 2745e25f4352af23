use Rattle.rl_value.specs.Fits.{RowsFit}
use Rattle.rl_threads_tests.proofs.family.opening_rows.Given as goal

abbrev pub invariant-loop-key : goal.invariant-loop-key
invariant-loop-key l = RowsFit l.schema l.map
