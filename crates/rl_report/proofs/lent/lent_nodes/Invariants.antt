use Rattle.std.proofs.Common.{◌≡◌, ◌+◌, ◌≤◌, length}
use Rattle.rl_report.specs.Read.{nodes}
use Rattle.rl_report.specs.Readers.{always}
use Rattle.rl_report.specs.Words.{lines_in}
use Rattle.rl_report.specs.declared.block.Head.TheVariants.{Plain}
use Rattle.rl_report.proofs.Loops.{values_left}
use Rattle.rl_report.proofs.Shorter.{more_nodes, read_node}
use Rattle.rl_report.proofs.lent.lent_nodes.Given as goal

abbrev pub invariant-nodes : goal.invariant-nodes
invariant-nodes l =
    record {
      same : values_left more_nodes (read_node (always Plain)) l.blocks (lines_in l.rest) ≡ nodes (always Plain) (lines_in l.text);
      shorter : length l.blocks + length l.rest ≤ length l.text;
    }

abbrev pub decreases-nodes : goal.decreases-nodes
decreases-nodes l = length l.rest
