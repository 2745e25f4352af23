-- What is true of the messages of a run.
use Rattle.std.specs.Prelude.{◌≡◌, map, false, Ok, Contains}
use Rattle.rl_msg.specs.declared.msg.Msg.{Msg}
use Rattle.rl_msg.specs.Encoding.{msg_bytes}
use Rattle.rl_msg.specs.Parts.{head_of}
use Rattle.rl_msg.specs.Ranges.{MsgInRange}
use Rattle.rl_msg.specs.Reading.{read_msg}
use Rattle.rl_nodes.specs.BadMessages.{is_bad}
use Rattle.rl_nodes.specs.Setups.{node_numbers}
use Rattle.rl_nodes.specs.World.{Sent, node_of}
use Rattle.rl_safe.specs.Runs.{Run}

-- a message that was sent, at any time in a run
pub record WasSent (run : Run) : Type 0 where
  pub message : Msg
  pub was_sent : Contains (map (λ (m : Sent). m.message) run.world.sent) message

-- it is in range of its encoding
abbrev pub MessagesAreInRange : Type 0
MessagesAreInRange = (run : Run) (m : WasSent run) → MsgInRange m.message

-- so its bytes read back as it
abbrev pub MessagesReadBack : Type 0
MessagesReadBack = (run : Run) (m : WasSent run) → read_msg (msg_bytes m.message) ≡ Ok m.message

-- it is sent to a node that is there
abbrev pub MessagesHaveReceivers : Type 0
MessagesHaveReceivers = (run : Run) (m : WasSent run) → Contains (node_numbers run.setup) (head_of m.message).to

-- its receiver would not refuse it as bad, whenever it is delivered
abbrev pub NoMessageIsBad : Type 0
NoMessageIsBad = (run : Run) (m : WasSent run)
    → is_bad run.setup (head_of m.message).to (node_of run.setup run.world (head_of m.message).to) m.message ≡ false
