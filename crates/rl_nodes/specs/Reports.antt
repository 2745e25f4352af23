-- What a world reports.
use Rattle.std.specs.Prelude.{List, map}
use Rattle.rl_txn.specs.declared.item.Item.{Item}
use Rattle.rl_nodes.specs.Setups.{Setup, node_numbers}
use Rattle.rl_nodes.specs.World.{World, Line, Block, block_of}

-- the lines so far, the released items, and each node
pub record Report : Type 0 where
  pub lines : List Line
  pub items : List Item
  pub blocks : List Block

-- the report of a world
abbrev pub report_of : Setup → World → Report
report_of setup w =
    record { lines = w.lines; items = w.released; blocks = map (block_of setup w) (node_numbers setup) }
