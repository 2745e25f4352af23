use Rattle.std.proofs.Common.{◌≡◌, ◌++◌, length, map}
use Rattle.std.specs.Vec.Iter.{into_iter_items}
use Rattle.rl_live.specs.Elections.{with_nodes}
use Rattle.rl_live.proofs.election.sync.Given as goal

-- all streams have the first nodes
abbrev pub invariant-loop-node : goal.invariant-loop-node
invariant-loop-node g l = record {
  count : l.number ≡ length l.yielded;
  all : l.yielded ++ into_iter_items l.node-iterator ≡ l.fn.nodes.items;
  leds : l.leds.items ≡ map (with_nodes l.epoch l.number) l.fn.leds.items;
}
