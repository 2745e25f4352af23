-- What a call of a node does, whatever its fields stand for.
use Rattle.std.specs.Prelude.{ℕ, Result, IfOk, IfErr}
use Rattle.rl_nodes.specs.Answers.{Did, Answer}
use Rattle.rl_nodes.specs.Calls.{Standing, IsDone, IsRefused}
use Rattle.rl_nodes.specs.Nodes.{NodeState}
use Rattle.rl_nodes.specs.Setups.{Setup}
use Rattle.rl_nodes.specs.declared.node_error.NodeError.{NodeError}
use Rattle.rl_node.specs.Outs.{IsOut}
use Rattle.rl_node.specs.Standing.{Stands}
use Rattle.rl_node.specs.declared.node.Node.{Node}
use Rattle.rl_node.specs.declared.answer.Out.{Out}

-- a call of node a has given the answer that was due: its fields stand for the node that the answer has, and what it hands out is
-- what that node did
pub record Does (setup : Setup) (a : ℕ) (n : Node) (old : Standing) (answer : Answer) (out : Out) : Type 0 where
  pub did : Did
  pub new : Standing
  pub stands : Stands setup a n new
  pub done : IsDone old new answer did
  pub hands_out : IsOut did out

-- a call of node a was refused
pub record Refuses (setup : Setup) (a : ℕ) (n : Node) (old : Standing) (answer : Answer) (error : NodeError) : Type 0 where
  pub new : Standing
  pub stands : Stands setup a n new
  pub refused : IsRefused old new answer error

-- whatever a node stood for, it has done what was due for that
abbrev pub DoesDue : Setup → (due : ℕ → NodeState → Answer) → (old new : Node) → Result Out NodeError → Type 0
DoesDue setup due old new result = (a : ℕ) (x : Standing) → Stands setup a old x
    → IfOk result (Does setup a new x (due a x.node))

-- or it has refused
abbrev pub RefusesDue : Setup → (due : ℕ → NodeState → Answer) → (old new : Node) → Result Out NodeError → Type 0
RefusesDue setup due old new result = (a : ℕ) (x : Standing) → Stands setup a old x
    → IfErr result (Refuses setup a new x (due a x.node))
