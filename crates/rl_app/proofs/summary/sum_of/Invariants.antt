use Rattle.std.proofs.Common.{◌≡◌, ◌%◌, ◌^◌, take, sum_by}
use Rattle.rl_app.specs.Summary.{sum_of}
use Rattle.rl_app.proofs.summary.sum_of.Given as goal

abbrev pub invariant-loop-row : goal.invariant-loop-row
invariant-loop-row l = l.total ≡ sum_of (take l.row-index l.rows)
