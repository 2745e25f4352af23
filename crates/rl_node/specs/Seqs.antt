-- The next seq that a node's workers draw, by its fields.
use Rattle.std.specs.Prelude.{ℕ, Option, Some, None}
use Rattle.rl_node.specs.declared.node.Node.{Node}
use Rattle.rl_node.specs.declared.node.Phase.{Phase}
use Rattle.rl_node.specs.declared.node.Phase.TheVariants.{Up}
use Rattle.rl_node.specs.declared.part.Part.{Part}
use Rattle.rl_node.specs.declared.part.Part.TheVariants.{Leads}
use Rattle.rl_node.specs.declared.part.Works.{Works}

-- of the workers of a leader: 2 before it opens
abbrev pub seq_in : Option Works → ℕ
seq_in None = 2
seq_in (Some works) = works.words.next

-- of a part: 2 of one that leads no epoch
abbrev pub seq_of_part : Part → ℕ
seq_of_part (Leads l) = seq_in l.works
seq_of_part other = 2

-- in a phase: 2 of a node that is not up
abbrev pub seq_of_phase : Phase → ℕ
seq_of_phase (Up r) = seq_of_part r.part
seq_of_phase other = 2

-- of a node
abbrev pub seq_of : Node → ℕ
seq_of n = seq_of_phase n.phase
