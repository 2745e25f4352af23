-- A node with another part. No public contract cites it.
use Rattle.rl_node.specs.declared.node.Node.{Node}
use Rattle.rl_node.specs.declared.node.Phase.{Phase}
use Rattle.rl_node.specs.declared.node.Phase.TheVariants.{Up}
use Rattle.rl_node.specs.declared.part.Part.{Part}

-- what is in a phase, with another part where it is up
abbrev pub with_part_in : Phase → Part → Phase
with_part_in (Up r) p = Up (record r { part = p })
with_part_in other p = other

-- a node with another part, where it is up
abbrev pub with_part : Node → Part → Node
with_part n p = record n { phase = with_part_in n.phase p }
