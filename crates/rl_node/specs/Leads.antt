-- What a leader of a node does of what is due. No public contract cites it.
use Rattle.std.specs.Prelude.{◌≡◌, Result, Ok, Err}
use Rattle.rl_nodes.specs.Answers.{Did, Answer}
use Rattle.rl_nodes.specs.Nodes.{NodeState, Part}
use Rattle.rl_nodes.specs.Setups.{Setup}
use Rattle.rl_nodes.specs.declared.node_error.NodeError.{NodeError}
use Rattle.rl_nodes.specs.declared.node_error.NodeError.TheVariants.{StreamFull, Memory}
use Rattle.rl_node.specs.Outs.{IsOut}
use Rattle.rl_node.specs.Standing.{StandsLead}
use Rattle.rl_node.specs.declared.answer.Out.{Out}
use Rattle.rl_node.specs.declared.part.Lead as leads

-- a node has the leader l now, and else what it was; it did what was due
pub record LeadDid (setup : Setup) (l : leads.Lead) (x : NodeState) (answer : Answer) (out : Out) : Type 0 where
  pub did : Did
  pub part : Part
  pub due : answer ≡ Ok did
  pub is : did.node ≡ record x { part = part }
  pub stands : StandsLead setup l part
  pub hands_out : IsOut did out

-- why it did not: a stream is full where that is due, or there was no memory
abbrev pub LeadFailed : Answer → NodeError → Type 0
LeadFailed answer (StreamFull slots) = answer ≡ Err (StreamFull slots)
LeadFailed answer Memory = Unit {0}
LeadFailed answer other = ⊥

-- one of both
abbrev pub LeadTries : Setup → (l : leads.Lead) → NodeState → Answer → Result Out NodeError → Type 0
LeadTries setup l x answer (Ok out) = LeadDid setup l x answer out
LeadTries setup l x answer (Err error) = LeadFailed answer error

-- whatever the leader stood for
abbrev pub LeadTriesDue : Setup → (due : NodeState → Answer) → (old new : leads.Lead) → Result Out NodeError → Type 0
LeadTriesDue setup due old new result =
    (x : NodeState) → StandsLead setup old x.part → LeadTries setup new x (due x) result
