use Rattle.std.proofs.Common.{◌≡◌, ◌+◌, ◌≤◌, length}
use Rattle.rl_report.specs.Read.{streams}
use Rattle.rl_report.specs.Words.{lines_in}
use Rattle.rl_report.proofs.Loops.{values_left}
use Rattle.rl_report.proofs.Shorter.{more_streams, read_stream}
use Rattle.rl_report.proofs.parse.streams_at.Given as goal

abbrev pub invariant-streams : goal.invariant-streams
invariant-streams l =
    record {
      same : values_left more_streams read_stream l.streams (lines_in l.rest) ≡ streams (lines_in l.text);
      shorter : length l.streams + length l.rest ≤ length l.text;
    }

abbrev pub decreases-streams : goal.decreases-streams
decreases-streams l = length l.rest
