use Rattle.std.proofs.Common.{◌≡◌, ◌+◌, ◌≤◌, length}
use Rattle.rl_report.specs.Read.{rows}
use Rattle.rl_report.specs.Words.{lines_in}
use Rattle.rl_report.proofs.Loops.{values_left}
use Rattle.rl_report.proofs.Shorter.{more_rows, read_row}
use Rattle.rl_report.proofs.parse.rows_at.Given as goal

abbrev pub invariant-rows : goal.invariant-rows
invariant-rows l =
    record {
      same : values_left more_rows read_row l.rows (lines_in l.rest) ≡ rows (lines_in l.text);
      shorter : length l.rows + length l.rest ≤ length l.text;
    }

abbrev pub decreases-rows : goal.decreases-rows
decreases-rows l = length l.rest
