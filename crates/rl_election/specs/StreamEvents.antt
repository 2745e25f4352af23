-- What each event does to a world of streams.
use Rattle.std.specs.Prelude.{ℕ, zero, suc, List, [], ◌∷◌, ◌++◌, length, map, Bool, ◌&&◌, ◌==◌, nat_lt, nat_le, if◌then◌else◌, Option, Some, None, slice_get, slice_index_or}
use Rattle.rl_base.specs.Epochs.{owner_of}
use Rattle.rl_base.specs.Lists.{updated}
use Rattle.rl_paxos.specs.declared.refused.Refused.{Refused}
use Rattle.rl_paxos.specs.Acceptors.{Kept, Acceptor, kept_log, refuses, refuses_accept, prepared, synced, accepted}
use Rattle.rl_paxos.specs.Leaders.{new_leading, proposed, with_ack}
use Rattle.rl_paxos.specs.Logs.{Batch, Log}
use Rattle.rl_paxos.specs.Quorums.{is_node}
use Rattle.rl_paxos.specs.Recovery.{Promise, Candidate, new_candidate, with_promise, recovered_logs}
use Rattle.rl_election.specs.World.{Cluster, is_stream, Message, Prepare, Promised, Sync, Accept, Ack, Envelope, to_all, State, Up, Down, Lost, is_up, Role, Follows, Stands, Leads, Node, Term, stream_of, with_stream, StreamWorld, initial_streams}

-- a node stands for an epoch; a message that was sent is delivered, by its number; a leader proposes a batch; a node crashes,
-- returns or is lost for good
pub data StreamEvent : Type 0 where
  Elect : (a epoch : ℕ) → StreamEvent
  Deliver : (number : ℕ) → StreamEvent
  Propose : (a s : ℕ) → (batch : Batch) → StreamEvent
  Crash : (a : ℕ) → StreamEvent
  Return : (a : ℕ) → StreamEvent
  Lose : (a : ℕ) → StreamEvent

-- ---- changes ----

-- a node changes and sends
abbrev pub acts : StreamWorld → (a : ℕ) → Node → List Envelope → StreamWorld
acts w a node sends = record w { node = updated w.node a node; sent = w.sent ++ sends }

-- the term of an epoch is another
abbrev pub with_term : StreamWorld → (epoch : ℕ) → Term → StreamWorld
with_term w epoch term = record w { terms = updated w.terms epoch (Some term) }

-- a refused message changes nothing
abbrev pub unless_refused : Option Refused → StreamWorld → StreamWorld → StreamWorld
unless_refused None done w = done
unless_refused (Some refusal) done w = w

-- ---- elections ----

-- a node may stand for any epoch of its own above its promise, so for the least one too
abbrev pub may_stand : Cluster → Node → (a epoch : ℕ) → Bool
may_stand g x a epoch =
    is_up x.state && (is_node g.nodes a && ((owner_of epoch g.nodes == a) && nat_lt x.acceptor.promised epoch))

-- a candidate of an epoch to whom no node has promised
abbrev pub candidate_of : Cluster → (epoch : ℕ) → Candidate
candidate_of g epoch = new_candidate epoch g.nodes g.streams g.first_quorum

-- it promises the epoch to itself at once, gives up any earlier role, and sends Prepare to all
abbrev pub stands_for : Cluster → StreamWorld → (a epoch : ℕ) → StreamWorld
stands_for g w a epoch =
    let x : Node = w.node a in
    if may_stand g x a epoch
    then acts w a (record x { acceptor = prepared x.acceptor epoch; role = Stands (candidate_of g epoch) })
    (to_all g.nodes a (Prepare epoch))
    else w

-- the initial logs of a leader are the recovered ones, each with the open mark
abbrev pub initial_logs : Cluster → Candidate → List Log
initial_logs g c = map (λ log. log ++ g.open_mark c.epoch ∷ []) (recovered_logs c.promises g.streams)

-- a Sync of each stream to each node
abbrev pub syncs : Cluster → (a epoch : ℕ) → List Log → (streams : ℕ) → List Envelope
syncs g a epoch logs zero = []
syncs g a epoch logs (suc s) =
    syncs g a epoch logs s ++ to_all g.nodes a (Sync epoch (suc s) (slice_index_or logs s []))

-- a candidate becomes the leader of its epoch
abbrev pub leads : Cluster → StreamWorld → (a : ℕ) → Candidate → StreamWorld
leads g w a c =
    let logs : List Log = initial_logs g c in
    with_term (acts w a (record (w.node a) { role = Leads c.epoch }) (syncs g a c.epoch logs g.streams)) c.epoch
    (record { initial = logs; streams = map (new_leading c.epoch g.nodes g.second_quorum) logs })

-- with the promises that it needs it leads, and before it stands on
abbrev pub stands_or_leads : Cluster → StreamWorld → (a : ℕ) → Candidate → StreamWorld
stands_or_leads g w a c =
    if nat_le c.need (length c.promises) then leads g w a c else acts w a (record (w.node a) { role = Stands c }) []

-- ---- deliveries ----

-- a Promise has the ballots and the logs of all streams
abbrev pub promise_message : (epoch : ℕ) → Acceptor → Message
promise_message epoch x = Promised epoch (map (λ (k : Kept). k.ballot) x.streams) (map (λ (k : Kept). k.log) x.streams)

-- an Ack has the length of the stream's log
abbrev pub ack_message : (epoch s : ℕ) → Acceptor → Message
ack_message epoch s x = Ack epoch s (length (kept_log x s))

-- node a has this acceptor now, and answers
abbrev pub answers : StreamWorld → (a : ℕ) → Acceptor → (to : ℕ) → Message → StreamWorld
answers w a acceptor to message =
    acts w a (record (w.node a) { acceptor = acceptor }) (record { from = a; to = to; message = message } ∷ [])

-- a promise counts for a candidate of that epoch, and is skipped by any other node
abbrev pub receives_promise : Cluster → StreamWorld → (a epoch : ℕ) → Promise → Role → StreamWorld
receives_promise g w a epoch p (Stands c) = if c.epoch == epoch then stands_or_leads g w a (with_promise c p) else w
receives_promise g w a epoch p other = w

-- an Ack counts on its stream of the epoch's term
abbrev pub counts_ack : StreamWorld → (epoch s from len : ℕ) → Option Term → StreamWorld
counts_ack w epoch s from len None = w
counts_ack w epoch s from len (Some t) = with_term w epoch (with_stream t s (with_ack (stream_of t s) from len))

-- an Ack counts for the leader of that epoch, and is skipped by any other node
abbrev pub receives_ack : Cluster → StreamWorld → (epoch s from len : ℕ) → Role → StreamWorld
receives_ack g w epoch s from len (Leads e) =
    if (e == epoch) && is_stream g s then counts_ack w epoch s from len (w.terms epoch) else w
receives_ack g w epoch s from len other = w

-- a node that is up receives a message
abbrev pub receives : Cluster → StreamWorld → (a from : ℕ) → Message → StreamWorld
receives g w a from (Prepare epoch) =
    let x : Acceptor = (w.node a).acceptor in
    unless_refused (refuses x epoch) (answers w a (prepared x epoch) from (promise_message epoch x)) w
receives g w a from (Promised epoch ballots logs) =
    receives_promise g w a epoch (record { node = from; ballots = ballots; logs = logs }) (w.node a).role
receives g w a from (Sync epoch s log) =
    let x : Acceptor = (w.node a).acceptor in
    let y : Acceptor = synced x epoch s log in
    if is_stream g s then unless_refused (refuses x epoch) (answers w a y from (ack_message epoch s y)) w else w
receives g w a from (Accept epoch s slot batch) =
    let x : Acceptor = (w.node a).acceptor in
    let y : Acceptor = accepted x s slot batch in
    if is_stream g s then unless_refused (refuses_accept x epoch s slot) (answers w a y from (ack_message epoch s y)) w else w
receives g w a from (Ack epoch s len) = receives_ack g w epoch s from len (w.node a).role

-- a message reaches its receiver if that is up
abbrev pub delivers : Cluster → StreamWorld → Option Envelope → StreamWorld
delivers g w None = w
delivers g w (Some m) = if is_up (w.node m.to).state then receives g w m.to m.from m.message else w

-- ---- proposals ----

-- a proposal takes the next slot, and is sent to all
abbrev pub proposes_in : Cluster → StreamWorld → (a epoch s : ℕ) → Batch → Option Term → StreamWorld
proposes_in g w a epoch s batch None = w
proposes_in g w a epoch s batch (Some t) =
    with_term (acts w a (w.node a) (to_all g.nodes a (Accept epoch s (length (stream_of t s).log) batch))) epoch
    (with_stream t s (proposed (stream_of t s) batch))

-- a leader that is up proposes a batch
abbrev pub proposes : Cluster → StreamWorld → (a s : ℕ) → Batch → Role → StreamWorld
proposes g w a s batch (Leads epoch) =
    if is_up (w.node a).state && is_stream g s then proposes_in g w a epoch s batch (w.terms epoch) else w
proposes g w a s batch other = w

-- ---- any event ----

-- a node is up again only where it was down
abbrev pub returned : State → State
returned Down = Up
returned other = other

-- and down only where it was up
abbrev pub crashed : State → State
crashed Up = Down
crashed other = other

-- the world after an event
abbrev pub after_stream_event : Cluster → StreamWorld → StreamEvent → StreamWorld
after_stream_event g w (Elect a epoch) = stands_for g w a epoch
after_stream_event g w (Deliver number) = delivers g w (slice_get w.sent number)
after_stream_event g w (Propose a s batch) = proposes g w a s batch (w.node a).role
after_stream_event g w (Crash a) = acts w a (record (w.node a) { state = crashed (w.node a).state; role = Follows }) []
after_stream_event g w (Return a) = acts w a (record (w.node a) { state = returned (w.node a).state }) []
after_stream_event g w (Lose a) = acts w a (record (w.node a) { state = Lost; role = Follows }) []

-- the world after a list of events
abbrev pub after_stream_events : Cluster → StreamWorld → List StreamEvent → StreamWorld
after_stream_events g w [] = w
after_stream_events g w (x ∷ xs) = after_stream_events g (after_stream_event g w x) xs

-- the world that a list of events makes of a new cluster
abbrev pub streams_after : Cluster → List StreamEvent → StreamWorld
streams_after g events = after_stream_events g (initial_streams g) events
