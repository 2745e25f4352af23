use Rattle.std.proofs.Common.{◌≡◌, map, All}
use Rattle.std.specs.List.{range_with_len}
use Rattle.rl_value.specs.Rows.{Rows}
use Rattle.rl_app.specs.Printing.{node_with}
use Rattle.rl_app.proofs.live.node_blocks.Given as goal

abbrev pub invariant-loop-node : goal.invariant-loop-node
invariant-loop-node l =
    (l.number ≡ l.node-index)
    × ((rows : Rows) → All (λ node. node.map ≡ rows) l.node-items → l.blocks ≡ map (node_with l.schema rows) (range_with_len 1 l.node-index))
