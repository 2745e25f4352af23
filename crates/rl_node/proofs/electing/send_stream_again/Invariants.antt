use Rattle.std.specs.List.{range_with_len, flat_map}
use Rattle.rl_node.specs.Outs.{Adds}
use Rattle.rl_node.specs.Sending.{resends_of}
use Rattle.rl_node.proofs.electing.send_stream_again.Given as goal

abbrev pub invariant-loop-before : goal.invariant-loop-before
invariant-loop-before l = Adds l.initial.sends l.sends
    (flat_map (resends_of l.from.node l.from.epoch l.from.stream l.stream) (range_with_len 1 l.before))
