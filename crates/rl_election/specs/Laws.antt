-- What is true of streams after any events, whatever is sent, lost, sent again or delayed, and whichever nodes crash, return
-- or are lost.
use Rattle.std.specs.Prelude.{◌≡◌, ℕ, None, List, [], ◌∷◌, ◌++◌, ◌<◌, ◌≤◌, length, take, slice_index_or, IsTrue, Contains}
use Rattle.rl_base.specs.Epochs.{owner_of}
use Rattle.rl_base.specs.Lists.{IsPrefix}
use Rattle.rl_paxos.specs.Acceptors.{Acceptor, kept_ballot, kept_log}
use Rattle.rl_paxos.specs.Leaders.{Leading, IsAcknowledged}
use Rattle.rl_paxos.specs.Logs.{Batch, Log}
use Rattle.rl_paxos.specs.Quorums.{is_node}
use Rattle.rl_paxos.specs.Recovery.{Candidate}
use Rattle.rl_election.specs.World.{Cluster, QuorumsIntersect, is_stream, Message, Prepare, Sync, Accept, Stands, Leads, StreamWorld}
use Rattle.rl_election.specs.StreamEvents.{StreamEvent, streams_after}
use Rattle.rl_election.specs.Chosen.{IsInitialLog, IsLeaderLog, IsChosen, IsAdopted, HasOrigin, IsLongestChosen, IsLeading, BeganWith}
use Rattle.rl_election.specs.Example.{three_nodes, one_election, two_elections}

-- ---- agreement ----

-- what is chosen at an epoch, and the initial log of a later one, on one stream
pub record ChosenAndLater (g : Cluster) (w : StreamWorld) : Type 0 where
  pub stream : ℕ
  pub epoch : ℕ
  pub later : ℕ
  pub chosen : Log
  pub initial : Log
  pub in_cluster : IsTrue (is_stream g stream)
  pub rises : epoch < later
  pub is_chosen : IsChosen g w epoch stream chosen
  pub is_initial : IsInitialLog w later stream initial

-- what is chosen at an epoch is a prefix of the initial log of each later epoch that has one
abbrev pub LaterLogsBeginChosen : Type 0
LaterLogsBeginChosen = (g : Cluster) (events : List StreamEvent) → QuorumsIntersect g
    → (both : ChosenAndLater g (streams_after g events)) → IsPrefix both.chosen both.initial

-- some events of a cluster, and more after them
pub record Stretch : Type 0 where
  pub cluster : Cluster
  pub events : List StreamEvent
  pub more : List StreamEvent

-- the world before the further events
abbrev pub before : Stretch → StreamWorld
before run = streams_after run.cluster run.events

-- and the world after them
abbrev pub at_end : Stretch → StreamWorld
at_end run = streams_after run.cluster (run.events ++ run.more)

-- an initial log stands once it is made
abbrev pub InitialLogsStand : Type 0
InitialLogsStand = (run : Stretch) (epoch s : ℕ) (initial : Log)
    → IsInitialLog (before run) epoch s initial → IsInitialLog (at_end run) epoch s initial

-- what is chosen at an epoch only grows
abbrev pub ChosenGrows : Type 0
ChosenGrows = (run : Stretch) (epoch s : ℕ) (chosen now : Log)
    → IsChosen run.cluster (before run) epoch s chosen → IsChosen run.cluster (at_end run) epoch s now → IsPrefix chosen now

-- ---- adoption ----

-- a stream at a node, after some events of a cluster
pub record AtNode : Type 0 where
  pub cluster : Cluster
  pub events : List StreamEvent
  pub node : ℕ
  pub stream : ℕ

-- the world then
abbrev pub world_at : AtNode → StreamWorld
world_at x = streams_after x.cluster x.events

-- the node's acceptor
abbrev pub acceptor_at : AtNode → Acceptor
acceptor_at x = ((world_at x).node x.node).acceptor

-- the ballot that it keeps of the stream
abbrev pub ballot_at : AtNode → ℕ
ballot_at x = kept_ballot (acceptor_at x) x.stream

-- and the log
abbrev pub log_at : AtNode → Log
log_at x = kept_log (acceptor_at x) x.stream

-- a log that a node keeps at a ballot was adopted at that epoch
abbrev pub KeptIsAdopted : Type 0
KeptIsAdopted = (x : AtNode) → IsTrue (is_stream x.cluster x.stream) → 0 < ballot_at x
    → IsAdopted (world_at x) (ballot_at x) x.stream (log_at x)

-- at ballot 0 it keeps no batch
abbrev pub NoneAtBallotZero : Type 0
NoneAtBallotZero = (x : AtNode) → ballot_at x ≡ 0 → log_at x ≡ []

-- no ballot is above the promise
abbrev pub BallotsBelowPromise : Type 0
BallotsBelowPromise = (x : AtNode) → ballot_at x ≤ (acceptor_at x).promised

-- ---- the logs of leaders ----

-- a stream of an epoch's one leader, after some events of a cluster
pub record AtLeader : Type 0 where
  pub cluster : Cluster
  pub events : List StreamEvent
  pub epoch : ℕ
  pub stream : ℕ
  pub in_cluster : IsTrue (is_stream cluster stream)

-- the world then
abbrev pub world_of : AtLeader → StreamWorld
world_of x = streams_after x.cluster x.events

-- an initial log is a log that was adopted at an earlier epoch, or nothing, and then the open mark
abbrev pub InitialLogsHaveOrigins : Type 0
InitialLogsHaveOrigins = (x : AtLeader) (initial : Log)
    → IsInitialLog (world_of x) x.epoch x.stream initial → HasOrigin x.cluster (world_of x) x.epoch x.stream initial

-- the log of a leader begins with its initial log
abbrev pub LeadersBeganWithInitialLogs : Type 0
LeadersBeganWithInitialLogs = (x : AtLeader) (initial : Log) (stream : Leading)
    → IsInitialLog (world_of x) x.epoch x.stream initial → IsLeading (world_of x) x.epoch x.stream stream
    → BeganWith x.cluster x.epoch initial stream

-- and only grows
abbrev pub LeaderLogsGrow : Type 0
LeaderLogsGrow = (run : Stretch) (epoch s : ℕ) (log now : Log)
    → IsLeaderLog (before run) epoch s log → IsLeaderLog (at_end run) epoch s now → IsPrefix log now

-- a node that leads an epoch is its owner
abbrev pub OwnersLead : Type 0
OwnersLead = (g : Cluster) (events : List StreamEvent) (a epoch : ℕ)
    → ((streams_after g events).node a).role ≡ Leads epoch → owner_of epoch g.nodes ≡ a

-- a candidate of the cluster, which stands for an epoch of its own that has no leader yet
pub record StandsFirst (g : Cluster) (w : StreamWorld) (a : ℕ) (c : Candidate) : Type 0 where
  pub own : owner_of c.epoch g.nodes ≡ a
  pub nodes_are : c.nodes ≡ g.nodes
  pub need_is : c.need ≡ g.first_quorum
  pub no_term : w.terms c.epoch ≡ None

-- so no epoch is led twice
abbrev pub CandidatesStandFirst : Type 0
CandidatesStandFirst = (g : Cluster) (events : List StreamEvent) (a : ℕ) (c : Candidate)
    → ((streams_after g events).node a).role ≡ Stands c → StandsFirst g (streams_after g events) a c

-- ---- what is sent again ----

-- a message was sent
abbrev pub WasSent : StreamWorld → (from to : ℕ) → Message → Type 0
WasSent w from to message = Contains w.sent (record { from = from; to = to; message = message })

-- a node that stands for an epoch, and one that it asks
pub record StandsAndAsks (g : Cluster) (w : StreamWorld) : Type 0 where
  pub node : ℕ
  pub candidate : Candidate
  pub to : ℕ
  pub stands : (w.node node).role ≡ Stands candidate
  pub is_receiver : IsTrue (is_node g.nodes to)

-- the Prepare of a candidate was sent to each node
abbrev pub PreparesWereSent : Type 0
PreparesWereSent = (g : Cluster) (events : List StreamEvent) (x : StandsAndAsks g (streams_after g events))
    → WasSent (streams_after g events) x.node x.to (Prepare x.candidate.epoch)

-- the initial log of a leader was sent to each node
abbrev pub SyncsWereSent : Type 0
SyncsWereSent = (x : AtLeader) (initial : Log) (to : ℕ)
    → IsInitialLog (world_of x) x.epoch x.stream initial → IsTrue (is_node x.cluster.nodes to)
    → WasSent (world_of x) (owner_of x.epoch x.cluster.nodes) to (Sync x.epoch x.stream initial)

-- a slot behind the initial log of a leader, and a node to which it sends
pub record SlotAndReceiver (x : AtLeader) : Type 0 where
  pub stream : Leading
  pub slot : ℕ
  pub to : ℕ
  pub is_leading : IsLeading (world_of x) x.epoch x.stream stream
  pub behind : stream.initial_len ≤ slot
  pub within : slot < length stream.log
  pub is_receiver : IsTrue (is_node x.cluster.nodes to)

-- the batch of each such slot was sent to each node
abbrev pub AcceptsWereSent : Type 0
AcceptsWereSent = (x : AtLeader) (r : SlotAndReceiver x)
    → WasSent (world_of x) (owner_of x.epoch x.cluster.nodes) r.to
    (Accept x.epoch x.stream r.slot (slice_index_or r.stream.log r.slot []))

-- ---- acknowledged lengths ----

-- a stream at an epoch's leader, the length that it counts as acknowledged, and what is chosen at the epoch
pub record AcknowledgedAndChosen (g : Cluster) (w : StreamWorld) : Type 0 where
  pub epoch : ℕ
  pub number : ℕ
  pub stream : Leading
  pub len : ℕ
  pub chosen : Log
  pub in_cluster : IsTrue (is_stream g number)
  pub is_leading : IsLeading w epoch number stream
  pub is_acknowledged : IsAcknowledged stream.quorum stream.acked len
  pub is_chosen : IsChosen g w epoch number chosen

-- what a leader counts as acknowledged is a prefix of what is chosen at its epoch
abbrev pub AcknowledgedIsChosen : Type 0
AcknowledgedIsChosen = (g : Cluster) (events : List StreamEvent)
    → (both : AcknowledgedAndChosen g (streams_after g events)) → IsPrefix (take both.len both.stream.log) both.chosen

-- ---- choices ----

-- some log has a property
abbrev pub SomeLog : (Log → Type 0) → Type 0
SomeLog P = (log : Log) × P log

-- wherever an epoch has a log, some log is what is chosen at it
abbrev pub SomeIsChosen : Type 0
SomeIsChosen = (g : Cluster) (w : StreamWorld) (epoch s : ℕ) → SomeLog (IsLeaderLog w epoch s) → SomeLog (IsChosen g w epoch s)

-- on each stream some log is the longest that was chosen, and all that was chosen begins it
abbrev pub SomeIsLongest : Type 0
SomeIsLongest = (g : Cluster) (events : List StreamEvent) → QuorumsIntersect g
    → (s : ℕ) → IsTrue (is_stream g s) → SomeLog (IsLongestChosen g (streams_after g events) s)

-- the longest only grows
abbrev pub LongestGrows : Type 0
LongestGrows = (run : Stretch) (s : ℕ) (longest now : Log)
    → IsLongestChosen run.cluster (before run) s longest → IsLongestChosen run.cluster (at_end run) s now
    → IsPrefix longest now

-- after the run of the example its proposal is chosen, behind the open mark
abbrev pub ProposalIsChosen : Type 0
ProposalIsChosen = (open_mark : ℕ → Batch) (batch : Batch)
    → IsChosen (three_nodes open_mark) (streams_after (three_nodes open_mark) (one_election batch)) 1 1
    (open_mark 1 ∷ batch ∷ [])

-- after the run with two elections the first leader's proposal is still chosen, and the second one's initial log carries it
abbrev pub ProposalIsCarried : Type 0
ProposalIsCarried = (open_mark : ℕ → Batch) (batch : Batch)
    → let g : Cluster = three_nodes open_mark in
    let w : StreamWorld = streams_after g (two_elections batch) in
    IsChosen g w 1 1 (open_mark 1 ∷ batch ∷ []) × IsInitialLog w 2 1 (open_mark 1 ∷ batch ∷ open_mark 2 ∷ [])
