use Rattle.std.proofs.Common.{◌≡◌, ◌++◌, ◌+◌, ◌/◌, length, map}
use Rattle.std.specs.Vec.Iter.{into_iter_items}
use Rattle.rl_live.specs.Elections.{promising}
use Rattle.rl_live.proofs.Promises.{promises_from}
use Rattle.rl_live.proofs.election.recover.Given as goal

-- the first nodes have promised
abbrev pub invariant-loop-node : goal.invariant-loop-node
invariant-loop-node g l = record {
  all : l.yielded ++ into_iter_items l.node-iterator ≡ l.fn.nodes.items;
  nodes : l.promised.items ≡ map (promising l.epoch) l.yielded;
  candidate : l.candidate ≡ record {
    epoch = l.epoch;
    nodes = length l.fn.nodes.items;
    streams = l.streams;
    need = length l.fn.nodes.items / 2 + 1;
    promises = promises_from 1 l.yielded;
  };
}
