use Rattle.std.proofs.Common.{◌≡◌, ◌≤◌, take}
use Rattle.rl_report.specs.Lent.{threads_report}
use Rattle.rl_report.specs.Lines.{row_lines}
use Rattle.rl_check.specs.Verdicts.{AreRight, node_line}
use Rattle.rl_check.proofs.nodes.judge_nodes.Given as goal

abbrev pub invariant-loop-block : goal.invariant-loop-block
invariant-loop-block l = record {
  node : l.node ≡ l.block-index;
  few : l.node ≤ l.script.nodes;
  line : l.line ≡ node_line (threads_report l.items l.nodes) l.block-index;
  right : AreRight (row_lines l.script.schema l.rows) (take l.block-index l.nodes);
}
