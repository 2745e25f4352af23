use Rattle.std.proofs.Common.{◌≡◌, ◌++◌, [], length, map, replicate}
use Rattle.std.specs.Vec.Iter.{into_iter_items}
use Rattle.rl_paxos.specs.Leaders.{new_leading}
use Rattle.rl_node.proofs.part.Lead.begin.Given as goal

-- a stream for each log so far
abbrev pub invariant-loop-log : goal.invariant-loop-log
invariant-loop-log l = record {
  whole : l.yielded ++ into_iter_items l.log-iterator ≡ l.fn.logs;
  streams : l.streams.items ≡ map (new_leading l.epoch l.setup.nodes l.setup.second_quorum) l.yielded;
  pending : l.pending.items ≡ replicate (length l.yielded) [];
}
