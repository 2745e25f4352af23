-- How a node stands for an epoch, sends again, crashes, returns and is lost.
use Rattle.std.specs.Prelude.{ℕ, ◌-◌, ◌^◌, ◌==◌, not, nat_lt, List, [], ◌∷◌, ◌++◌, map, filter, length, slice_index_or, if◌then◌else◌, Ok, Err}
use Rattle.std.specs.List.{flat_map, range_with_len}
use Rattle.rl_base.specs.Epochs.{next_epoch_of}
use Rattle.rl_paxos.specs.Acceptors.{prepared}
use Rattle.rl_paxos.specs.Leaders.{acked_len}
use Rattle.rl_paxos.specs.Recovery.{Candidate, has_promised}
use Rattle.rl_election.specs.StreamEvents.{candidate_of}
use Rattle.rl_election.specs.World.{Up, Down, Lost}
use Rattle.rl_msg.specs.declared.msg.Msg.{Msg}
use Rattle.rl_msg.specs.declared.msg.Msg.TheVariants.{Prepare, Accept}
use Rattle.rl_nodes.specs.declared.node_error.NodeError.TheVariants.{NoEpoch}
use Rattle.rl_nodes.specs.Answers.{Did, Answer, sending, to_each}
use Rattle.rl_nodes.specs.Handles.{sync_to, known_to}
use Rattle.rl_nodes.specs.Nodes.{Lead, NodeState, Part, Follows, Stands, Leads, nothing_known, opening_replica, leading, len_acknowledged}
use Rattle.rl_nodes.specs.Setups.{Setup, node_numbers, stream_numbers, cluster_of}

-- ---- elections ----

-- node a promises an epoch to itself, gives up any earlier part, and asks each node for its promise
abbrev pub stands : Setup → (a : ℕ) → NodeState → (e : ℕ) → Did
stands setup a x e =
    let part = Stands (candidate_of (cluster_of setup) e) in
    sending (record x { acceptor = prepared x.acceptor e; part = part }) (to_each setup (λ to. Prepare a to e))

-- node a stands for its least epoch above the promised one, where there is one
abbrev pub elects : Setup → (a : ℕ) → NodeState → Answer
elects setup a x =
    let e = next_epoch_of x.acceptor.promised a setup.nodes in
    if nat_lt e (2 ^ 20) then Ok (stands setup a x e) else Err (NoEpoch x.acceptor.promised)

-- ---- sending again ----

-- the batches of stream s from a slot on, each as an Accept
abbrev pub accepts_from : (a : ℕ) → Lead → (s slot to : ℕ) → List Msg
accepts_from a lead s slot to =
    let log = (leading lead s).log in
    map (λ i. Accept a to lead.epoch s i (slice_index_or log i [])) (range_with_len slot (length log - slot))

-- stream s for a node: the first Sync until it has acked the open mark, and then what lies past its acked length
abbrev pub resends_to : (a : ℕ) → Lead → (s to : ℕ) → List Msg
resends_to a lead s to =
    let acked = acked_len (leading lead s) to in
    if nat_lt acked (leading lead s).initial_len then sync_to a lead s to ∷ [] else accepts_from a lead s acked to

-- how much of stream s a second quorum has acked, for each node, where it has acked some
abbrev pub knowns : Setup → (a : ℕ) → Lead → (s : ℕ) → List Msg
knowns setup a lead s = if len_acknowledged (leading lead s) == 0 then [] else to_each setup (known_to a lead s)

-- a leader sends each stream again to each node, and then how much of each stream is chosen
abbrev pub resends : Setup → (a : ℕ) → Lead → List Msg
resends setup a lead =
    flat_map (λ s. flat_map (resends_to a lead s) (node_numbers setup)) (stream_numbers setup)
    ++ flat_map (knowns setup a lead) (stream_numbers setup)

-- a candidate asks each node again that has not promised
abbrev pub asks_again : Setup → (a : ℕ) → Candidate → List Msg
asks_again setup a c =
    map (λ to. Prepare a to c.epoch) (filter (λ to. not (has_promised c.promises to)) (node_numbers setup))

-- what a node sends again, by its part
abbrev pub sends_again : Setup → (a : ℕ) → Part → List Msg
sends_again setup a Follows = []
sends_again setup a (Stands c) = asks_again setup a c
sends_again setup a (Leads lead) = resends setup a lead

-- node a sends again, and changes nothing
abbrev pub ticks : Setup → (a : ℕ) → NodeState → Answer
ticks setup a x = Ok (sending x (sends_again setup a x.part))

-- ---- crashes and returns ----

-- a node that goes loses its part, what it knows to be chosen, and its replica; its acceptor stays
abbrev pub gone : Setup → NodeState → NodeState
gone setup x = record x { known = nothing_known setup; replica = opening_replica setup; part = Follows }

-- a node crashes
abbrev pub crashed : Setup → NodeState → NodeState
crashed setup x = record (gone setup x) { state = Down }

-- a node that was down is up again
abbrev pub returned : NodeState → NodeState
returned x = record x { state = Up }

-- a node is lost for good: what its acceptor kept plays no part from then on
abbrev pub lost : Setup → NodeState → NodeState
lost setup x = record (gone setup x) { state = Lost }
