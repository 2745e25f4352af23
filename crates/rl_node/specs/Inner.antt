-- Calls of a node that has not failed, before a failure is noted. No public contract cites it.
use Rattle.std.specs.Prelude.{◌≡◌, ℕ, true, Option, Some, None, Result, Ok, Err}
use Rattle.rl_nodes.specs.Answers.{Did, Answer}
use Rattle.rl_nodes.specs.Calls.{Standing, KeepsAcceptor}
use Rattle.rl_nodes.specs.Nodes.{NodeState}
use Rattle.rl_nodes.specs.Setups.{Setup}
use Rattle.rl_nodes.specs.declared.node_error.NodeError.{NodeError}
use Rattle.rl_nodes.specs.declared.node_error.NodeError.TheVariants.{BadMessage, StreamFull, NoEpoch, Memory}
use Rattle.rl_node.specs.Outs.{IsOut}
use Rattle.rl_node.specs.Standing.{Stands, is_running}
use Rattle.rl_node.specs.declared.node.Node.{Node}
use Rattle.rl_node.specs.declared.node.Phase.{Phase}
use Rattle.rl_node.specs.declared.node.Phase.TheVariants.{Up}
use Rattle.rl_node.specs.declared.answer.Out.{Out}

-- a node that answers calls
abbrev pub well : NodeState → Standing
well x = record { node = x; failed = None }

-- it did what was due
pub record HasDone (setup : Setup) (a : ℕ) (n : Node) (answer : Answer) (out : Out) : Type 0 where
  pub did : Did
  pub due : answer ≡ Ok did
  pub stands : Stands setup a n (well did.node)
  pub hands_out : IsOut did out

-- why it did not
abbrev pub Reason : (old new : Node) → Answer → NodeError → Type 0
Reason old new answer BadMessage = (answer ≡ Err BadMessage) × (new ≡ old)
Reason old new answer (NoEpoch promised) = (answer ≡ Err (NoEpoch promised)) × (new ≡ old)
Reason old new answer (StreamFull slots) = answer ≡ Err (StreamFull slots)
Reason old new answer Memory = Unit {0}

-- it did not do what was due, and its acceptor is that before, or that of what was due
pub record HasNot (setup : Setup) (a : ℕ) (old new : Node) (x : NodeState) (answer : Answer) (error : NodeError) : Type 0 where
  pub node : NodeState
  pub stands : Stands setup a new (well node)
  pub up : is_running new ≡ true
  pub keeps : KeepsAcceptor x node answer
  pub reason : Reason old new answer error

-- one of both, by its answer
abbrev pub Tries : Setup → (a : ℕ) → (old new : Node) → NodeState → Answer → Result Out NodeError → Type 0
Tries setup a old new x answer (Ok out) = HasDone setup a new answer out
Tries setup a old new x answer (Err error) = HasNot setup a old new x answer error

-- whatever a node that answers calls stood for
abbrev pub TriesDue : Setup → (due : ℕ → NodeState → Answer) → (old new : Node) → Result Out NodeError → Type 0
TriesDue setup due old new result =
    (a : ℕ) (x : NodeState) → Stands setup a old (well x) → Tries setup a old new x (due a x) result

-- the answer that a node repeats
abbrev pub failed_in : Phase → Option NodeError
failed_in (Up r) = r.failed
failed_in other = None

-- what is in a phase with another such answer
abbrev pub with_failed_in : Phase → Option NodeError → Phase
with_failed_in (Up r) f = Up (record r { failed = f })
with_failed_in other f = other

-- the answer that a refusal makes it repeat, if it does
abbrev pub repeated : NodeError → Option NodeError
repeated (StreamFull slots) = Some (StreamFull slots)
repeated Memory = Some Memory
repeated other = None

-- a node with another such answer, if there is one
abbrev pub with_failed : Node → Option NodeError → Node
with_failed n None = n
with_failed n (Some f) = record n { phase = with_failed_in n.phase (Some f) }

-- a node that has given an answer
abbrev pub noted : Node → Result Out NodeError → Node
noted n (Ok out) = n
noted n (Err e) = with_failed n (repeated e)
