use Rattle.std.proofs.Common.{◌≡◌, ◌++◌, length}
use Rattle.std.specs.Vec.Iter.{into_iter_items}
use Rattle.rl_live.specs.Spreading.{spread}
use Rattle.rl_live.proofs.join.spread.Given as goal

-- the first nodes have theirs
abbrev pub invariant-loop-acceptor : goal.invariant-loop-acceptor
invariant-loop-acceptor l = record {
  count : l.at ≡ length l.yielded;
  all : l.yielded ++ into_iter_items l.acceptor-iterator ≡ l.fn.acceptors;
  nodes : l.nodes ≡ spread l.fn.nodes l.yielded;
}
