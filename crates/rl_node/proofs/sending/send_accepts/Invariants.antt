use Rattle.std.proofs.Common.{◌-◌, map, []}
use Rattle.std.specs.List.{range_with_len}
use Rattle.std.specs.Prelude.{slice_index_or}
use Rattle.rl_msg.specs.declared.msg.Msg.TheVariants.{Accept}
use Rattle.rl_node.specs.Outs.{Adds}
use Rattle.rl_node.proofs.sending.send_accepts.Given as goal

abbrev pub invariant-loop-i : goal.invariant-loop-i
invariant-loop-i l = Adds l.initial.sends l.sends
    (map (λ i. Accept l.from.node l.to l.from.epoch l.from.stream i (slice_index_or l.stream.log i [])) (range_with_len l.slot (l.i - l.slot)))
