use Rattle.std.proofs.Common.{◌≡◌, ◌+◌, ◌≤◌, length}
use Rattle.rl_report.specs.Read.{effects}
use Rattle.rl_report.specs.Words.{lines_in}
use Rattle.rl_report.proofs.Loops.{values_left}
use Rattle.rl_report.proofs.Shorter.{before_items, read_effect}
use Rattle.rl_report.proofs.parse.effects_at.Given as goal

abbrev pub invariant-effects : goal.invariant-effects
invariant-effects l =
    record {
      same : values_left before_items read_effect l.lines (lines_in l.rest) ≡ effects (lines_in l.text);
      shorter : length l.lines + length l.rest ≤ length l.text;
    }

abbrev pub decreases-effects : goal.decreases-effects
decreases-effects l = length l.rest
