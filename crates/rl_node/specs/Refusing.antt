-- What is handed out where the acceptor refuses a message. No public contract cites it.
use Rattle.std.specs.Prelude.{[], Some, None, Result, Ok, Err}
use Rattle.rl_paxos.specs.declared.refused.Refused.{Refused}
use Rattle.rl_paxos.specs.declared.refused.Refused.TheVariants as refused
use Rattle.rl_nodes.specs.declared.node_error.NodeError.{NodeError}
use Rattle.rl_nodes.specs.declared.node_error.NodeError.TheVariants.{Memory}
use Rattle.rl_node.specs.declared.answer.Out.{Out}

-- nothing is sent, and the refusal is told
abbrev pub refusing : Refused → Out
refusing r = record { sends = []; opened = None; denied = Some r; released = [] }

-- want of memory is no refusal of a message
abbrev pub refused_with : Refused → Result Out NodeError
refused_with refused.Memory = Err Memory
refused_with other = Ok (refusing other)
