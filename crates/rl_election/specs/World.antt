-- A world of streams alone: nodes that elect leaders, and leaders whose logs the nodes adopt. What was sent may be
-- delivered at any later time, in any order, again and again, or never.
use Rattle.std.specs.Prelude.{ℕ, zero, suc, ◌-◌, ◌+◌, ◌<◌, List, [], ◌∷◌, ◌++◌, Bool, true, false, ◌&&◌, nat_le, Option, None, slice_index_or, slice_set}
use Rattle.rl_paxos.specs.Acceptors.{Acceptor, new_acceptor}
use Rattle.rl_paxos.specs.Leaders.{Leading, new_leading}
use Rattle.rl_paxos.specs.Logs.{Batch, Log}
use Rattle.rl_paxos.specs.Recovery.{Candidate}

-- how many nodes and streams there are, the sizes of a first and a second quorum, and the open mark of each epoch
pub record Cluster : Type 0 where
  pub nodes : ℕ
  pub streams : ℕ
  pub first_quorum : ℕ
  pub second_quorum : ℕ
  pub open_mark : (epoch : ℕ) → Batch

-- each first quorum shares a node with each second one
abbrev pub QuorumsIntersect : Cluster → Type 0
QuorumsIntersect g = g.nodes < g.first_quorum + g.second_quorum

-- s is the number of a stream
abbrev pub is_stream : Cluster → (s : ℕ) → Bool
is_stream g s = nat_le 1 s && nat_le s g.streams

-- ---- what is sent ----

-- what a node says to another
pub data Message : Type 0 where
  Prepare : (epoch : ℕ) → Message
  Promised : (epoch : ℕ) → (ballots : List ℕ) → (logs : List Log) → Message
  Sync : (epoch s : ℕ) → (log : Log) → Message
  Accept : (epoch s slot : ℕ) → (batch : Batch) → Message
  Ack : (epoch s len : ℕ) → Message

-- a message, with its sender and its receiver
pub record Envelope : Type 0 where
  pub from : ℕ
  pub to : ℕ
  pub message : Message

-- the same to nodes 1 to n
abbrev pub to_all : (n from : ℕ) → Message → List Envelope
to_all zero from message = []
to_all (suc n) from message = to_all n from message ++ record { from = from; to = suc n; message = message } ∷ []

-- ---- the nodes ----

-- a node that is down keeps its acceptor, and one that is lost never acts again
pub data State : Type 0 where
  Up : State
  Down : State
  Lost : State

-- whether a node is up
abbrev pub is_up : State → Bool
is_up Up = true
is_up other = false

-- a candidate stands for an epoch with the promises so far; a leader leads one
pub data Role : Type 0 where
  Follows : Role
  Stands : Candidate → Role
  Leads : (epoch : ℕ) → Role

-- a node: whether it is up, what it has promised and keeps, and its role
pub record Node : Type 0 where
  pub state : State
  pub acceptor : Acceptor
  pub role : Role

-- ---- the leaders' logs ----

-- the logs with which the leader of an epoch began, and its streams as they stand or last stood
pub record Term : Type 0 where
  pub initial : List Log
  pub streams : List Leading

-- for the number of no stream
abbrev pub no_stream : Leading
no_stream = new_leading 0 0 0 []

-- a stream of a term
abbrev pub stream_of : Term → (s : ℕ) → Leading
stream_of t s = slice_index_or t.streams (s - 1) no_stream

-- the term with another stream s
abbrev pub with_stream : Term → (s : ℕ) → Leading → Term
with_stream t s x = record t { streams = slice_set t.streams (s - 1) x }

-- ---- the world ----

-- the nodes by number, the terms by epoch, and all that was ever sent
pub record StreamWorld : Type 0 where
  pub node : ℕ → Node
  pub terms : ℕ → Option Term
  pub sent : List Envelope

-- each node is up and follows, no epoch has a leader, and nothing was sent
abbrev pub initial_streams : Cluster → StreamWorld
initial_streams g = record {
  node = λ a. record { state = Up; acceptor = new_acceptor g.streams; role = Follows };
  terms = λ e. None;
  sent = [];
}
