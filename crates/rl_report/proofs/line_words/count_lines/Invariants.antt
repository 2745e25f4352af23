use Rattle.std.proofs.Common.{◌≡◌, ◌+◌, ◌≤◌, length}
use Rattle.rl_report.specs.Words.{lines_in}
use Rattle.rl_report.proofs.line_words.count_lines.Given as goal

abbrev pub invariant-lines : goal.invariant-lines
invariant-lines l = record { same : l.count + length (lines_in l.rest) ≡ length (lines_in l.text); few : l.count + length l.rest ≤ length l.text }

abbrev pub decreases-lines : goal.decreases-lines
decreases-lines l = length l.rest
