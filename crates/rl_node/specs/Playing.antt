-- How the replica of a node plays. The records for one entry and for a state between two are cited by no public contract.
use Rattle.std.specs.Prelude.{◌≡◌, ℕ, ◌+◌, Ok}
use Rattle.rl_nodes.specs.Answers.{quiet}
use Rattle.rl_nodes.specs.Calls.{Standing, IsDone, played_len}
use Rattle.rl_nodes.specs.Setups.{Setup}
use Rattle.rl_nodes.specs.Views.{plays}
use Rattle.rl_node.specs.Standing.{Stands}
use Rattle.rl_node.specs.declared.node.Node.{Node}

-- ---- a node ----

-- the replica of node a has played stream s as far as it could, and so many entries of it
pub record HasPlayed (setup : Setup) (a : ℕ) (n : Node) (old : Standing) (s count : ℕ) : Type 0 where
  pub new : Standing
  pub stands : Stands setup a n new
  pub done : IsDone old new (Ok (quiet (plays setup old.node s))) (quiet (plays setup old.node s))
  pub entries : played_len old.node s + count ≡ played_len new.node s
