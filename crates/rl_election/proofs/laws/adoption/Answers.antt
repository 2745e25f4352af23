use Rattle.std.proofs.Common.{◌-◌}
use Rattle.rl_election.specs.Laws.{AtNode, world_at, ballot_at, log_at}
use Rattle.rl_election.proofs.Inv.{Inv}
use Rattle.rl_election.proofs.Origins.{adopted}
use Rattle.rl_election.proofs.Stays.{inv_of}
use Rattle.rl_election.proofs.laws.adoption.Goals as goal

-- what holds between events holds of the world at a node's moment
inv_at : (x : AtNode) → Inv x.cluster (world_at x)
inv_at x = inv_of x.cluster x.events

pub returns-clause-adopted : goal.returns-clause-adopted
returns-clause-adopted c = λ x there above.
    adopted (world_at x) (ballot_at x) x.stream (log_at x) ((((inv_at x).node_ok x.node).kept (x.stream - 1)).has above)

pub returns-clause-none : goal.returns-clause-none
returns-clause-none c = λ x zero. (((inv_at x).node_ok x.node).kept (x.stream - 1)).none zero

pub returns-clause-below : goal.returns-clause-below
returns-clause-below c = λ x. (((inv_at x).node_ok x.node).kept (x.stream - 1)).below
