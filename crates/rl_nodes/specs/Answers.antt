-- What a node does at an event, and what it answers.
use Rattle.std.specs.Prelude.{ℕ, List, [], map, Option, Some, None, Result}
use Rattle.rl_paxos.specs.declared.refused.Refused.{Refused}
use Rattle.rl_txn.specs.declared.item.Item.{Item}
use Rattle.rl_msg.specs.declared.msg.Msg.{Msg}
use Rattle.rl_worker.specs.Acts.{CoreRefusal}
use Rattle.rl_nodes.specs.declared.node_error.NodeError.{NodeError}
use Rattle.rl_nodes.specs.Nodes.{NodeState}
use Rattle.rl_nodes.specs.Setups.{Setup, node_numbers}

-- a leader that opens: its epoch, and its opening list
pub record Opening : Type 0 where
  pub epoch : ℕ
  pub items : List Item

-- a leader that releases: its epoch, the history from which it does, and the items that this history gained in the event
pub record Release : Type 0 where
  pub epoch : ℕ
  pub history : List Item
  pub gained : List Item

-- the node after an event, the messages that it sends in their order, and what it tells: that it opened, from which history it
-- releases, why it refused a message, and an attempt of a worker that was refused
pub record Did : Type 0 where
  pub node : NodeState
  pub sends : List Msg
  pub opened : Option Opening
  pub release : Option Release
  pub denied : Option Refused
  pub refusal : Option CoreRefusal

-- what a node does at an event, or why it refuses the call
abbrev pub Answer : Type 0
Answer = Result Did NodeError

-- it sends some messages and tells nothing
abbrev pub sending : NodeState → List Msg → Did
sending x sends =
    record { node = x; sends = sends; opened = None; release = None; denied = None; refusal = None }

-- it sends and tells nothing
abbrev pub quiet : NodeState → Did
quiet x = sending x []

-- it refuses a message and is unchanged, or does something
abbrev pub unless_denied : Option Refused → NodeState → Did → Did
unless_denied None x did = did
unless_denied (Some refused) x did = record (quiet x) { denied = Some refused }

-- a message to each node
abbrev pub to_each : Setup → (to_node : ℕ → Msg) → List Msg
to_each setup to_node = map to_node (node_numbers setup)
