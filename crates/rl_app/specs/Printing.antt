-- What the report of a run of threads is printed from.
use Rattle.std.specs.Prelude.{◌≡◌, ℕ, List, [], length, All}
use Rattle.rl_value.specs.Rows.{Rows}
use Rattle.rl_value.specs.Tables.{Table}
use Rattle.rl_live.specs.declared.run.NodeRun.{NodeRun}
use Rattle.rl_report.specs.Lines.{row_lines}
use Rattle.rl_report.specs.declared.block.Block.{Block}
use Rattle.rl_report.specs.declared.block.Head.TheVariants.{Plain}

-- so many nodes, each with these rows
pub record HasNodes (count : ℕ) (rows : Rows) (nodes : List NodeRun) : Type 0 where
  pub counted : length nodes ≡ count
  pub each : All (λ node. node.map ≡ rows) nodes

-- the node of a number, as it is printed with some rows
abbrev pub node_with : List Table → Rows → (node : ℕ) → Block
node_with tables rows node = record {
  node = node;
  head = Plain;
  streams = [];
  rows = row_lines tables rows;
}
