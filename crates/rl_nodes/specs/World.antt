-- The world of all nodes: what was sent, released and told, and what leaders have had.
use Rattle.std.specs.Prelude.{ℕ, zero, suc, ◌-◌, List, [], ◌∷◌, ◌++◌, length, map, filter, sum_by, replicate, Bool, true, false, not, ◌&&◌, nat_lt, if◌then◌else◌, Option, None, Some, option_to_list, slice_get, slice_set, slice_index_or, Result, Ok, Err}
use Rattle.std.specs.Option.{option_map, option_map_or}
use Rattle.rl_base.specs.Order.{is_below}
use Rattle.rl_base.specs.declared.limit.LimitName.{LimitName}
use Rattle.rl_base.specs.declared.limit.LimitName.TheVariants.{Slots, Bytes}
use Rattle.rl_base.specs.declared.limit.TheConstants.{BYTES}
use Rattle.rl_base.specs.declared.refusal.Refusal.{Refusal}
use Rattle.rl_txn.specs.declared.item.Item.{Item}
use Rattle.rl_paxos.specs.declared.refused.Refused.{Refused}
use Rattle.rl_election.specs.World.{Term}
use Rattle.rl_base.specs.Lists.{updated}
use Rattle.rl_families.specs.Logs.{last_stamp}
use Rattle.rl_msg.specs.declared.msg.Msg.{Msg}
use Rattle.rl_msg.specs.Encoding.{msg_bytes}
use Rattle.rl_worker.specs.Acts.{CoreRefusal}
use Rattle.rl_worker.specs.Told.{refused}
use Rattle.rl_nodes.specs.declared.node_error.NodeError.TheVariants.{StreamFull}
use Rattle.rl_nodes.specs.declared.view.NodeView.{NodeView}
use Rattle.rl_nodes.specs.Answers.{Opening, Release, Did, Answer}
use Rattle.rl_nodes.specs.Nodes.{Lead, NodeState, Part, Leads, new_node, initial_log_of}
use Rattle.rl_nodes.specs.Setups.{Setup}
use Rattle.rl_nodes.specs.Views.{view_of, rows_in}

-- ---- what is sent and told ----

-- a message as it was sent, and what became of it since
pub record Sent : Type 0 where
  pub message : Msg
  pub delivered : Bool
  pub dropped : Bool

-- a node as it is reported: how it is shown, and its rows
pub record Block : Type 0 where
  pub node : ℕ
  pub view : NodeView
  pub rows : List ((ℕ × ℕ) × List ℕ)

-- a line between the title of a report and its items: an attempt was refused, a message was denied, a message that was not sent was to
-- be delivered or dropped, a leader opened with so many items, or a node was shown
pub data Line : Type 0 where
  AttemptRefused : (epoch worker index : ℕ) → Refusal → Line
  MessageDenied : (number node : ℕ) → Refused → Line
  NoMessage : (number : ℕ) → Line
  LeaderOpened : (epoch node count : ℕ) → Line
  NodeShown : Block → Line

-- ---- what leaders have had ----

-- a leader that opened: its epoch and node, and its opening list
pub record Opened : Type 0 where
  pub epoch : ℕ
  pub node : ℕ
  pub items : List Item

-- a history from which the leader of an epoch released
pub record Given : Type 0 where
  pub epoch : ℕ
  pub history : List Item

-- an attempt that was refused at the leader of an epoch
pub record Attempt : Type 0 where
  pub epoch : ℕ
  pub refusal : CoreRefusal

-- ---- the world ----

-- the nodes; all that was ever sent, in its order; the released list; the lines of the report so far; each leader that opened, each
-- history from which one released, and each refused attempt; and by epoch the streams of its leader, as they stand or last stood
pub record World : Type 0 where
  pub nodes : List NodeState
  pub sent : List Sent
  pub released : List Item
  pub lines : List Line
  pub openings : List Opened
  pub gave : List Given
  pub refusals : List Attempt
  pub terms : ℕ → Option Term

-- each node is up and follows, and nothing was sent
abbrev pub new_world : Setup → World
new_world setup = record {
  nodes = replicate setup.nodes (new_node setup);
  sent = [];
  released = [];
  lines = [];
  openings = [];
  gave = [];
  refusals = [];
  terms = λ epoch. None;
}

-- node a
abbrev pub node_of : Setup → World → (a : ℕ) → NodeState
node_of setup w a = slice_index_or w.nodes (a - 1) (new_node setup)

-- node a as it is reported
abbrev pub block_of : Setup → World → (a : ℕ) → Block
block_of setup w a =
    let x = node_of setup w a in
    record { node = a; view = view_of setup x; rows = rows_in x x.state }

-- the world with one more line
abbrev pub with_line : World → Line → World
with_line w line = record w { lines = w.lines ++ line ∷ [] }

-- ---- messages ----

-- the message of a number, counted from 1, where one was sent
abbrev pub sent_at : List Sent → (number : ℕ) → Option Sent
sent_at sent zero = None
sent_at sent (suc i) = slice_get sent i

-- what was sent after the message of a number has changed
abbrev pub changed_at : (Sent → Sent) → List Sent → (number : ℕ) → List Sent
changed_at change sent zero = sent
changed_at change sent (suc i) = option_map_or (λ m. slice_set sent i (change m)) (slice_get sent i) sent

-- the message of a number was delivered
abbrev pub delivered : World → (number : ℕ) → World
delivered w number = record w { sent = changed_at (λ m. record m { delivered = true }) w.sent number }

-- the message of a number was dropped
abbrev pub dropped : World → (number : ℕ) → World
dropped w number = record w { sent = changed_at (λ m. record m { dropped = true }) w.sent number }

-- whether a message was never delivered nor dropped
abbrev pub is_pending : Sent → Bool
is_pending m = not m.delivered && not m.dropped

-- the numbers of the pending messages, where the first of some has a number
abbrev pub pending_from : (number : ℕ) → List Sent → List ℕ
pending_from number [] = []
pending_from number (m ∷ ms) =
    if is_pending m then number ∷ pending_from (suc number) ms else pending_from (suc number) ms

-- a message as it is sent
abbrev pub new_sent : Msg → Sent
new_sent m = record { message = m; delivered = false; dropped = false }

-- how many bytes all messages have
abbrev pub bytes_sent : List Sent → ℕ
bytes_sent sent = sum_by (λ m. length (msg_bytes m.message)) sent

-- ---- what a node did ----

-- the items of a history that are above the last released one
abbrev pub unreleased : (released history : List Item) → List Item
unreleased released history =
    filter (λ x. option_map_or (λ last. is_below last x.stamp) (last_stamp (map (λ x. x.stamp) released)) true) history

-- the released list after a leader released from a history
abbrev pub released_after : (released : List Item) → Option Release → List Item
released_after released None = released
released_after released (Some r) = released ++ unreleased released r.history

-- the line of a leader that opened
abbrev pub opened_line : (a : ℕ) → Opening → Line
opened_line a o = LeaderOpened o.epoch a (length o.items)

-- the line of a refused attempt
abbrev pub refused_line : Attempt → Line
refused_line f = AttemptRefused f.epoch f.refusal.worker f.refusal.index (refused f.refusal)

-- the epoch that a node leads, or 0
abbrev pub epoch_led : Part → ℕ
epoch_led (Leads lead) = lead.epoch
epoch_led other = 0

-- the attempt that was refused at a node, if one was
abbrev pub attempt_of : Did → Option Attempt
attempt_of did = option_map (λ f. record { epoch = epoch_led did.node.part; refusal = f }) did.refusal

-- the lines of what node a did with the message of a number, or with no message
abbrev pub lines_of : (a number : ℕ) → Did → List Line
lines_of a number did =
    option_to_list (option_map (MessageDenied number a) did.denied)
    ++ option_to_list (option_map (opened_line a) did.opened)
    ++ option_to_list (option_map refused_line (attempt_of did))

-- the streams of a leader, and the logs with which they began
abbrev pub term_of : Lead → Term
term_of lead = record { initial = map initial_log_of lead.streams; streams = lead.streams }

-- the terms where a node has a part: those of a leader are what it has
abbrev pub terms_after : (ℕ → Option Term) → Part → ℕ → Option Term
terms_after terms (Leads lead) = updated terms lead.epoch (Some (term_of lead))
terms_after terms other = terms

-- the world after node a did something, with the message of a number or with none
abbrev pub after_doing : World → (a number : ℕ) → Did → World
after_doing w a number did = record {
  nodes = slice_set w.nodes (a - 1) did.node;
  sent = w.sent ++ map new_sent did.sends;
  released = released_after w.released did.release;
  lines = w.lines ++ lines_of a number did;
  openings = w.openings
      ++ option_to_list (option_map (λ o. record { epoch = o.epoch; node = a; items = o.items }) did.opened);
  gave = w.gave
      ++ option_to_list (option_map (λ r. record { epoch = r.epoch; history = r.history }) did.release);
  refusals = w.refusals ++ option_to_list (attempt_of did);
  terms = terms_after w.terms did.node.part;
}

-- ---- limits ----

-- the world after an event, or the limit that it passes
abbrev pub Ran : Type 0
Ran = Result World LimitName

-- all that was ever sent has few enough bytes
abbrev pub within_bytes : World → Ran
within_bytes w = if nat_lt BYTES (bytes_sent w.sent) then Err Bytes else Ok w

-- after what node a answers: a full stream passes the limit of slots, and any other refusal does nothing
abbrev pub after_answer : World → (a number : ℕ) → Answer → Ran
after_answer w a number (Ok did) = within_bytes (after_doing w a number did)
after_answer w a number (Err (StreamFull slots)) = Err Slots
after_answer w a number (Err other) = Ok w
