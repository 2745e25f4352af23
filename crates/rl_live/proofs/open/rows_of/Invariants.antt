use Rattle.rl_live.specs.Handing.{HasRows}
use Rattle.rl_live.proofs.open.rows_of.Given as goal

-- the rows of the first records
abbrev pub invariant-loop-r : goal.invariant-loop-r
invariant-loop-r l = HasRows l.layout l.map l.r l.rows.items
