use Rattle.std.proofs.Common.{◌≡◌, ◌≤◌, ◌+◌, length}
use Rattle.rl_text.specs.Text.{lines_of}
use Rattle.rl_script.specs.Drafts.{DraftFits}
use Rattle.rl_script.specs.Read.{read_text, read_lines}
use Rattle.rl_script.proofs.script.read_lines.Given as goal

abbrev pub invariant-lines : goal.invariant-lines
invariant-lines l =
    record {
      counted : l.number + length l.rest ≤ length l.text;
      same : read_lines (l.number + 1) l.draft (lines_of l.rest) ≡ read_text (lines_of l.text);
      fits : DraftFits l.draft;
    }

abbrev pub decreases-lines : goal.decreases-lines
decreases-lines l = length l.rest
