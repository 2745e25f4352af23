use Rattle.std.proofs.Common.{◌≡◌, drop, nat_le}
use Rattle.std.specs.List.{list_all}
use Rattle.rl_nodes.specs.Nodes.{len_acknowledged}
use Rattle.rl_node.proofs.acking.marks_are_acknowledged.Given as goal

abbrev pub invariant-loop-stream : goal.invariant-loop-stream
invariant-loop-stream l =
    list_all (λ stream. nat_le stream.initial_len (len_acknowledged stream)) l.streams.items
    ≡ list_all (λ stream. nat_le stream.initial_len (len_acknowledged stream)) (drop l.stream-index l.streams.items)
