use Rattle.std.proofs.Common.{map}
use Rattle.std.specs.List.{range_with_len, filter}
use Rattle.std.specs.Prelude.{not}
use Rattle.rl_msg.specs.declared.msg.Msg.TheVariants.{Prepare}
use Rattle.rl_paxos.specs.Recovery.{has_promised}
use Rattle.rl_node.specs.Outs.{Adds}
use Rattle.rl_node.proofs.electing.ask_again.Given as goal

abbrev pub invariant-loop-before : goal.invariant-loop-before
invariant-loop-before l = Adds l.initial.sends l.sends
    (map (λ to. Prepare l.id to l.candidate.epoch)
    (filter (λ to. not (has_promised l.candidate.promises to)) (range_with_len 1 l.before)))
