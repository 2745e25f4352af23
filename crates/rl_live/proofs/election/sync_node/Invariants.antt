use Rattle.std.proofs.Common.{◌≡◌, ◌++◌, length}
use Rattle.std.specs.Vec.Iter.{into_iter_items}
use Rattle.rl_live.specs.Elections.{with_node}
use Rattle.rl_live.proofs.Firsts.{firsts}
use Rattle.rl_live.proofs.election.sync_node.Given as goal

-- the first streams have the node
abbrev pub invariant-loop-acceptor : goal.invariant-loop-acceptor
invariant-loop-acceptor g l = record {
  count : l.s ≡ length l.yielded;
  all : l.yielded ++ into_iter_items l.acceptor-iterator ≡ l.fn.node;
  leds : l.leds.items ≡ firsts (with_node l.epoch l.number) l.s l.fn.leds.items;
}
