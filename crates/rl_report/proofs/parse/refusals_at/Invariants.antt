use Rattle.std.proofs.Common.{◌≡◌, ◌+◌, ◌≤◌, length}
use Rattle.rl_report.specs.Read.{refusals}
use Rattle.rl_report.specs.Words.{lines_in}
use Rattle.rl_report.proofs.Loops.{values_left}
use Rattle.rl_report.proofs.Shorter.{before_items, read_refusal}
use Rattle.rl_report.proofs.parse.refusals_at.Given as goal

abbrev pub invariant-refusals : goal.invariant-refusals
invariant-refusals l =
    record {
      same : values_left before_items read_refusal l.lines (lines_in l.rest) ≡ refusals (lines_in l.text);
      shorter : length l.lines + length l.rest ≤ length l.text;
    }

abbrev pub decreases-refusals : goal.decreases-refusals
decreases-refusals l = length l.rest
