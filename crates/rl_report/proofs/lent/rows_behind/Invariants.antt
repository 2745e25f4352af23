use Rattle.std.proofs.Common.{◌≡◌, ◌+◌, ◌≤◌, List, length}
use Rattle.rl_report.specs.declared.line.RowLine.{RowLine}
use Rattle.rl_report.specs.Words.{lines_in}
use Rattle.rl_report.proofs.LentLemmas.{Left}
use Rattle.rl_report.proofs.lent.rows_behind.Given as goal

abbrev pub invariant-rows : goal.invariant-rows
invariant-rows l =
    (before : List RowLine) × Left (lines_in l.text) (lines_in l.rest) before × (l.count ≡ length before) × (length before + length l.rest ≤ length l.text)

abbrev pub decreases-rows : goal.decreases-rows
decreases-rows l = length l.rest
