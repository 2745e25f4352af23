-- What is true of every run, whatever its steps, deliveries, losses, repeats, elections and crashes.
use Rattle.std.specs.Prelude.{◌≡◌, ◌↔◌, ℕ, List, ◌++◌, map, All, Contains, Some, Ok, IsTrue}
use Rattle.rl_base.specs.Lists.{IsPrefix}
use Rattle.rl_base.specs.Results.{◌>>=◌}
use Rattle.rl_base.specs.declared.stamp.Stamp.{Stamp}
use Rattle.rl_value.specs.Tables.{Table}
use Rattle.rl_txn.specs.Fits.{WriteFits}
use Rattle.rl_txn.specs.declared.item.Item.{Item}
use Rattle.rl_txn.specs.declared.write.Write.{Write}
use Rattle.rl_paxos.specs.Logs.{Log}
use Rattle.rl_paxos.specs.Quorums.{is_node}
use Rattle.rl_txn.specs.declared.batch.Batch.{Batch}
use Rattle.rl_base.specs.Epochs.{next_epoch_of}
use Rattle.rl_events.specs.Fits.{EventFits}
use Rattle.rl_events.specs.declared.event.Event.{Event}
use Rattle.rl_families.specs.Logs.{IsRising}
use Rattle.rl_replay.specs.Replay.{HaveSameStamps}
use Rattle.rl_batch.specs.Encoding.{batch_bytes}
use Rattle.rl_election.specs.World.{Envelope, StreamWorld, Up, Down}
use Rattle.rl_election.specs.StreamEvents.{StreamEvent, Elect, Crash, Return, Lose, Propose, after_stream_event, receives as stream_receives, streams_after}
use Rattle.rl_election.specs.Chosen.{IsLongestChosen}
use Rattle.rl_election.specs.Laws.{SomeLog}
use Rattle.rl_msg.specs.declared.msg.Msg.{Msg}
use Rattle.rl_nodes.specs.Answers.{Did, quiet}
use Rattle.rl_nodes.specs.Elections.{elects, crashed, returned, lost}
use Rattle.rl_nodes.specs.BadMessages.{begins, write_fits}
use Rattle.rl_nodes.specs.Batches.{are_rising}
use Rattle.rl_nodes.specs.Events.{world_after, after_event, after_events, expanded_events}
use Rattle.rl_nodes.specs.Handles.{receives}
use Rattle.rl_nodes.specs.Nodes.{Lead, NodeState, Leads}
use Rattle.rl_nodes.specs.Safe.{Safe}
use Rattle.rl_nodes.specs.Setups.{Setup, SetupFits, cluster_of, stream_numbers}
use Rattle.rl_nodes.specs.Streams.{envelope_of, stream_world, streams_after_doing, IsInStreams, HasBegun}
use Rattle.rl_nodes.specs.Works.{proposes}
use Rattle.rl_nodes.specs.Views.{have_same_stamps}
use Rattle.rl_nodes.specs.World.{World, Sent}

-- the released transactions in the order of their stamps are a prefix of one serial history, which the replicas and the opening
-- lists begin too, and attempts are refused for true causes: after any events, so also between any two of them
abbrev pub EveryRunIsSafe : Type 0
EveryRunIsSafe = (setup : Setup) (events : List Event) (w : World) → SetupFits setup
    → All (EventFits setup.nodes setup.workers) events → world_after setup events ≡ Ok w → Safe setup w

-- ---- runs ----

-- a run goes on from where its first events came to
abbrev pub RunsGoOn : Type 0
RunsGoOn = (setup : Setup) (events more : List Event)
    → world_after setup (events ++ more)
    ≡ (world_after setup events >>= after_events setup (expanded_events setup more))

-- what a world has that only grows: the messages that were sent, what was released and told, and what leaders have had
pub record Grows (old new : World) : Type 0 where
  pub sent : IsPrefix (map (λ (m : Sent). m.message) old.sent) (map (λ (m : Sent). m.message) new.sent)
  pub released : IsPrefix old.released new.released
  pub lines : IsPrefix old.lines new.lines
  pub openings : IsPrefix old.openings new.openings
  pub gave : IsPrefix old.gave new.gave
  pub refusals : IsPrefix old.refusals new.refusals

-- each event lets it grow
abbrev pub EventsOnlyAdd : Type 0
EventsOnlyAdd = (setup : Setup) (e : Event) (old new : World) → after_event setup e old ≡ Ok new → Grows old new

-- and so do any events
abbrev pub RunsOnlyAdd : Type 0
RunsOnlyAdd = (setup : Setup) (events : List Event) (old new : World)
    → after_events setup events old ≡ Ok new → Grows old new

-- ---- streams ----

-- a message that a node takes
pub record Taken (setup : Setup) : Type 0 where
  pub streams : StreamWorld
  pub node : ℕ
  pub state : NodeState
  pub message : Msg
  pub did : Did
  pub envelope : Envelope
  pub is_node : IsInStreams streams node state
  pub is_message : envelope_of message ≡ Some envelope
  pub takes : receives setup node state message ≡ Ok did

-- a node that takes a message does what the same node of the streams does, where it receives that message
abbrev pub NodesTakeAsStreams : Type 0
NodesTakeAsStreams = (setup : Setup) (t : Taken setup)
    → stream_receives (cluster_of setup) t.streams t.node t.envelope.from t.envelope.message
    ≡ streams_after_doing t.streams t.node t.did

-- a node of a world that is one of the streams
pub record Placed (setup : Setup) : Type 0 where
  pub streams : StreamWorld
  pub node : ℕ
  pub state : NodeState
  pub in_setup : IsTrue (is_node setup.nodes node)
  pub in_streams : IsInStreams streams node state

-- after an event of the streams they are as after the node did something
abbrev pub Follows : (setup : Setup) → Placed setup → StreamEvent → Did → Type 0
Follows setup t e did =
    after_stream_event (cluster_of setup) t.streams e ≡ streams_after_doing t.streams t.node did

-- an election, a crash, a return and a loss of a node are those of the streams
pub record NodesChangeAsStreams : Type 0 where
  pub elects : (setup : Setup) (t : Placed setup) (did : Did) → t.state.state ≡ Up → elects setup t.node t.state ≡ Ok did
      → Follows setup t (Elect t.node (next_epoch_of t.state.acceptor.promised t.node setup.nodes)) did
  pub crashes : (setup : Setup) (t : Placed setup) → t.state.state ≡ Up
      → Follows setup t (Crash t.node) (quiet (crashed setup t.state))
  pub returns : (setup : Setup) (t : Placed setup) → t.state.state ≡ Down
      → Follows setup t (Return t.node) (quiet (returned t.state))
  pub loses : (setup : Setup) (t : Placed setup) → Follows setup t (Lose t.node) (quiet (lost setup t.state))

-- a batch that an open leader proposes is a proposal of the streams
abbrev pub LeadersProposeAsStreams : Type 0
LeadersProposeAsStreams = (setup : Setup) (t : Placed setup) (lead : Lead) (s : ℕ) (batch : Batch) (did : Did)
    → t.state.state ≡ Up → t.state.part ≡ Leads lead → HasBegun lead s → IsTrue (is_node setup.workers s)
    → proposes setup t.node t.state lead s batch ≡ Ok did
    → Follows setup t (Propose t.node s (batch_bytes batch)) did

-- ---- whole runs ----

-- a world of nodes and a world of streams are the same but for what is not between streams: node by node, the terms, and which
-- messages were sent
pub record AreSame (setup : Setup) (w : World) (streams : StreamWorld) : Type 0 where
  pub nodes : (a : ℕ) → IsTrue (is_node setup.nodes a) → streams.node a ≡ (stream_world setup w).node a
  pub terms : streams.terms ≡ w.terms
  pub sent : (n : Envelope) → Contains streams.sent n ↔ Contains (stream_world setup w).sent n

-- of each run some events of the streams make the same
abbrev pub RunsAreStreams : Type 0
RunsAreStreams = (setup : Setup) (events : List Event) (w : World) → SetupFits setup
    → All (EventFits setup.nodes setup.workers) events → world_after setup events ≡ Ok w
    → (es : List StreamEvent) × AreSame setup w (streams_after (cluster_of setup) es)

-- on each stream of each run some log is the longest that was chosen
abbrev pub RunsHaveChosen : Type 0
RunsHaveChosen = (setup : Setup) (events : List Event) (w : World) → SetupFits setup
    → All (EventFits setup.nodes setup.workers) events → world_after setup events ≡ Ok w
    → (s : ℕ) → Contains (stream_numbers setup) s → SomeLog (IsLongestChosen (cluster_of setup) (stream_world setup w) s)

-- ---- tests ----

-- the tests of the rule of bad messages, and of a replica at its watermark, tell what they are named for
pub record TestsTell : Type 0 where
  pub rising : (stamps : List Stamp) → IsTrue (are_rising stamps) ↔ IsRising stamps
  pub begins : (log longer : Log) → IsTrue (begins log longer) ↔ IsPrefix log longer
  pub fits : (tables : List Table) (w : Write) → IsTrue (write_fits tables w) ↔ WriteFits tables w
  pub same : (xs ys : List Item) → IsTrue (have_same_stamps xs ys) ↔ HaveSameStamps xs ys
