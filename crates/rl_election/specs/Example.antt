-- Two short runs: node 1 of three is elected, and a batch of its own is chosen on the one stream; then node 2 is elected.
use Rattle.std.specs.Prelude.{ℕ, List, [], ◌∷◌, ◌++◌}
use Rattle.rl_paxos.specs.Logs.{Batch}
use Rattle.rl_election.specs.World.{Cluster}
use Rattle.rl_election.specs.StreamEvents.{StreamEvent, Elect, Deliver, Propose, Crash}

-- three nodes, one stream, and majorities as quorums of both kinds
abbrev pub three_nodes : (open_mark : ℕ → Batch) → Cluster
three_nodes open_mark = record { nodes = 3; streams = 1; first_quorum = 2; second_quorum = 2; open_mark = open_mark }

-- Prepare to nodes 1 to 3 is sent as 0 to 2, two Promises as 3 and 4, Sync as 5 to 7, its Acks as 8 and 9, Accept as 10 to 12
abbrev pub one_election : (batch : Batch) → List StreamEvent
one_election batch =
    Elect 1 1 ∷ Deliver 0 ∷ Deliver 1 ∷ Deliver 3 ∷ Deliver 4 ∷ Deliver 5 ∷ Deliver 6
    ∷ Propose 1 1 batch ∷ Deliver 10 ∷ Deliver 11 ∷ []

-- its Acks are 13 and 14. Node 1 crashes, Prepare to nodes 1 to 3 is sent as 15 to 17, and the Promises of nodes 2 and 3, of which
-- only node 2 has what was chosen, as 18 and 19
abbrev pub two_elections : (batch : Batch) → List StreamEvent
two_elections batch =
    one_election batch ++ Crash 1 ∷ Elect 2 2 ∷ Deliver 16 ∷ Deliver 17 ∷ Deliver 18 ∷ Deliver 19 ∷ []
