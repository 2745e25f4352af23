use Rattle.std.proofs.Common.{◌-◌}
use Rattle.std.specs.List.{range_with_len, flat_map}
use Rattle.std.specs.Prelude.{slice_index_or}
use Rattle.rl_election.specs.World.{no_stream}
use Rattle.rl_node.specs.Outs.{Adds}
use Rattle.rl_node.specs.Recovering.{syncs_of}
use Rattle.rl_node.proofs.part.Lead.send_logs.Given as goal

abbrev pub invariant-loop-i : goal.invariant-loop-i
invariant-loop-i l = Adds l.initial.sends l.sends
    (flat_map (λ s. syncs_of l.id l.self.epoch s (slice_index_or l.self.streams.items (s - 1) no_stream) l.setup.nodes)
    (range_with_len 1 l.i))
