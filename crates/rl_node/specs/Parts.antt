-- What a part of a node does of what is due. No public contract cites it.
use Rattle.std.specs.Prelude.{◌≡◌, Result, Ok, Err}
use Rattle.rl_nodes.specs.Answers.{Did, Answer}
use Rattle.rl_nodes.specs.Nodes.{NodeState, Part}
use Rattle.rl_nodes.specs.Setups.{Setup}
use Rattle.rl_nodes.specs.declared.node_error.NodeError.{NodeError}
use Rattle.rl_node.specs.Leads.{LeadFailed}
use Rattle.rl_node.specs.Outs.{IsOut}
use Rattle.rl_node.specs.Standing.{StandsPart}
use Rattle.rl_node.specs.declared.answer.Out.{Out}
use Rattle.rl_node.specs.declared.part.Part as parts
use Rattle.rl_node.specs.declared.part.Part.TheVariants.{Follows}

-- a node has the part p now, and else what it was; it did what was due
pub record PartDid (setup : Setup) (p : parts.Part) (x : NodeState) (answer : Answer) (out : Out) : Type 0 where
  pub did : Did
  pub part : Part
  pub due : answer ≡ Ok did
  pub is : did.node ≡ record x { part = part }
  pub stands : StandsPart setup p part
  pub hands_out : IsOut did out

-- or it did not, as its leader could not, and it follows
abbrev pub PartTries : Setup → (p : parts.Part) → NodeState → Answer → Result Out NodeError → Type 0
PartTries setup p x answer (Ok out) = PartDid setup p x answer out
PartTries setup p x answer (Err error) = LeadFailed answer error × (p ≡ Follows)

-- whatever the part stood for
abbrev pub PartTriesDue : Setup → (due : NodeState → Answer) → (old new : parts.Part) → Result Out NodeError → Type 0
PartTriesDue setup due old new result =
    (x : NodeState) → StandsPart setup old x.part → PartTries setup new x (due x) result
