-- A node that takes a message which is not bad. No public contract cites it.
use Rattle.std.specs.Prelude.{◌≡◌, ℕ, false, Result}
use Rattle.rl_msg.specs.declared.msg.Msg.{Msg}
use Rattle.rl_msg.specs.Ranges.{MsgInRange}
use Rattle.rl_nodes.specs.BadMessages.{is_bad}
use Rattle.rl_nodes.specs.Handles.{takes}
use Rattle.rl_nodes.specs.Nodes.{NodeState}
use Rattle.rl_nodes.specs.Setups.{Setup, SetupFits}
use Rattle.rl_nodes.specs.declared.node_error.NodeError.{NodeError}
use Rattle.rl_node.specs.Inner.{well, Tries}
use Rattle.rl_node.specs.Standing.{Stands}
use Rattle.rl_node.specs.declared.answer.Out.{Out}
use Rattle.rl_node.specs.declared.node.Node.{Node}

-- it stands for a node of a run to which the message is not bad
pub record CanTake (n : Node) (m : Msg) : Type 0 where
  pub setup : Setup
  pub fits : SetupFits setup
  pub number : ℕ
  pub node : NodeState
  pub stands : Stands setup number n (well node)
  pub good : is_bad setup number node m ≡ false
  pub in_range : MsgInRange m

-- whatever node it stands for to which the message is not bad, it tries what is due
abbrev pub TriesToTake : (old new : Node) → Msg → Result Out NodeError → Type 0
TriesToTake old new m result = (setup : Setup) (a : ℕ) (x : NodeState) → SetupFits setup → Stands setup a old (well x)
    → is_bad setup a x m ≡ false → MsgInRange m → Tries setup a old new x (takes setup a x m) result

-- the same of a message with which a setup's sizes count
pub record CanTakeIn (setup : Setup) (n : Node) (m : Msg) : Type 0 where
  pub number : ℕ
  pub node : NodeState
  pub stands : Stands setup number n (well node)
  pub good : is_bad setup number node m ≡ false
  pub in_range : MsgInRange m

abbrev pub TriesToTakeIn : Setup → (old new : Node) → Msg → Result Out NodeError → Type 0
TriesToTakeIn setup old new m result = (a : ℕ) (x : NodeState) → Stands setup a old (well x)
    → is_bad setup a x m ≡ false → MsgInRange m → Tries setup a old new x (takes setup a x m) result

-- it stands for some node that answers calls
abbrev pub IsWell : Setup → Node → Type 0
IsWell setup n = (a : ℕ) × (x : NodeState) × Stands setup a n (well x)
