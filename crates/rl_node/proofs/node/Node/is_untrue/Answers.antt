use Rattle.std.proofs.Common.{subst}
use Rattle.rl_msg.specs.declared.msg.Msg.{Msg}
use Rattle.rl_nodes.specs.BadMessages.{stream_named}
use Rattle.rl_node.specs.Named.{HasNamed}
use Rattle.rl_node.proofs.Bads.{part_there}
use Rattle.rl_node.proofs.node.Node.is_untrue.Goals as goal

pub is_past_end-requires : goal.is_past_end-requires
is_past_end-requires c =
    part_there c.args.self.now c.in-Ack.stream (subst (λ (m : Msg). HasNamed c.args.self.now (stream_named m)) c.in-Ack.is c.requires.node)
    c.in-Up.running c.in-Up.is
