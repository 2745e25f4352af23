use Rattle.std.proofs.Common.{◌≡◌, ◌≤◌, length}
use Rattle.rl_report.specs.Read.{one_line, due_item}
use Rattle.rl_report.specs.Readers.{several}
use Rattle.rl_report.specs.Words.{lines_in}
use Rattle.rl_report.proofs.Loops.{onto}
use Rattle.rl_report.proofs.parse.several_items.Given as goal

abbrev pub invariant-items : goal.invariant-items
invariant-items l =
    record {
      same : onto l.items (several l.left (one_line due_item) (lines_in l.rest)) ≡ several l.count (one_line due_item) (lines_in l.text);
      shorter : length l.rest ≤ length l.text;
    }

abbrev pub decreases-items : goal.decreases-items
decreases-items l = l.left
