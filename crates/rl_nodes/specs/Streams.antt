-- A world of nodes as a world of streams alone.
use Rattle.std.specs.Prelude.{◌≡◌, ℕ, ◌≤◌, length, List, ◌++◌, filter_map, Option, Some, None}
use Rattle.rl_base.specs.Lists.{updated}
use Rattle.rl_election.specs.World as streams
use Rattle.rl_msg.specs.declared.msg.Msg.{Msg}
use Rattle.rl_msg.specs.declared.msg.Msg.TheVariants.{Prepare, Promise, Sync, Accept, Ack, Known}
use Rattle.rl_nodes.specs.Answers.{Did}
use Rattle.rl_nodes.specs.Nodes.{Lead, NodeState, Part, Follows, Stands, Leads, leading}
use Rattle.rl_nodes.specs.Setups.{Setup}
use Rattle.rl_nodes.specs.World.{World, Sent, node_of, term_of, terms_after}

-- a message between streams; a Known is none
abbrev pub envelope_of : Msg → Option streams.Envelope
envelope_of (Prepare from to e) = Some (record { from = from; to = to; message = streams.Prepare e })
envelope_of (Promise from to e ballots logs) =
    Some (record { from = from; to = to; message = streams.Promised e ballots logs })
envelope_of (Sync from to e s log) = Some (record { from = from; to = to; message = streams.Sync e s log })
envelope_of (Accept from to e s slot batch) =
    Some (record { from = from; to = to; message = streams.Accept e s slot batch })
envelope_of (Ack from to e s len) = Some (record { from = from; to = to; message = streams.Ack e s len })
envelope_of (Known from to e s len) = None

-- the role of a part
abbrev pub stream_role : Part → streams.Role
stream_role Follows = streams.Follows
stream_role (Stands c) = streams.Stands c
stream_role (Leads lead) = streams.Leads lead.epoch

-- a node as the streams know it
abbrev pub stream_node : NodeState → streams.Node
stream_node x = record { state = x.state; acceptor = x.acceptor; role = stream_role x.part }

-- a world as a world of streams alone
abbrev pub stream_world : Setup → World → streams.StreamWorld
stream_world setup w = record {
  node = λ a. stream_node (node_of setup w a);
  terms = w.terms;
  sent = filter_map (λ (m : Sent). envelope_of m.message) w.sent;
}

-- the messages between streams among some
abbrev pub envelopes_of : List Msg → List streams.Envelope
envelopes_of messages = filter_map envelope_of messages

-- the world of streams after node a of a world did something
abbrev pub streams_after_doing : streams.StreamWorld → (a : ℕ) → Did → streams.StreamWorld
streams_after_doing w a did = record {
  node = updated w.node a (stream_node did.node);
  terms = terms_after w.terms did.node.part;
  sent = w.sent ++ envelopes_of did.sends;
}

-- the term of the epoch that a node leads, if it leads one, is what the node has
abbrev pub HasTerm : streams.StreamWorld → Part → Type 0
HasTerm w (Leads lead) = w.terms lead.epoch ≡ Some (term_of lead)
HasTerm w other = Unit {0}

-- node a is a node of the streams
pub record IsInStreams (w : streams.StreamWorld) (a : ℕ) (x : NodeState) : Type 0 where
  pub node : w.node a ≡ stream_node x
  pub term : HasTerm w x.part

-- the log of stream s of a leader is as long as the one with which it began, or longer
abbrev pub HasBegun : Lead → (s : ℕ) → Type 0
HasBegun lead s = (leading lead s).initial_len ≤ length (leading lead s).log
