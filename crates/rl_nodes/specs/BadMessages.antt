-- Which messages a node refuses as bad: each has something that no message has that a node of a run sends to it.
use Rattle.std.specs.Prelude.{ℕ, suc, Bool, true, false, not, ◌&&◌, ◌||◌, ◌==◌, nat_lt, nat_le, is_some, List, [], ◌∷◌, length, Option, Some, None}
use Rattle.std.specs.List.{list_any, list_all}
use Rattle.std.specs.Option.{option_map_or}
use Rattle.std.specs.Str.{bytes_eq}
use Rattle.rl_base.specs.Epochs.{owner_of}
use Rattle.rl_base.specs.Order.{is_below}
use Rattle.rl_base.specs.declared.stamp.Stamp.{Stamp}
use Rattle.rl_value.specs.Tables.{Table, size_of, columns_of}
use Rattle.rl_txn.specs.declared.item.Item.{Item}
use Rattle.rl_txn.specs.declared.write.Write.{Write}
use Rattle.rl_paxos.specs.Acceptors.{Acceptor, kept_ballot, kept_log, refuses, refuses_accept}
use Rattle.rl_paxos.specs.Logs.{Log}
use Rattle.rl_paxos.specs.Quorums.{is_node}
use Rattle.rl_families.specs.Logs.{stamps_along, items_along, first_stamp, last_stamp}
use Rattle.rl_msg.specs.declared.msg.Msg.{Msg}
use Rattle.rl_msg.specs.declared.msg.Msg.TheVariants.{Promise, Sync, Accept, Ack, Known}
use Rattle.rl_msg.specs.Parts.{head_of}
use Rattle.rl_nodes.specs.Batches.{batches_of, are_batches, are_rising}
use Rattle.rl_nodes.specs.Nodes.{NodeState, Part, Stands, Leads, leading, known_log}
use Rattle.rl_nodes.specs.Setups.{Setup}

-- ---- what a message says of itself ----

-- a log in a message: its stream, and the greatest epoch that its batches may have there
pub record Carried : Type 0 where
  pub stream : ℕ
  pub epoch : ℕ
  pub log : Log

-- the logs of a Promise, one for each of some streams: their batches are of epochs up to the ballot
abbrev pub carried_from : (s : ℕ) → (ballots : List ℕ) → (logs : List Log) → List Carried
carried_from s [] logs = []
carried_from s (ballot ∷ ballots) [] = []
carried_from s (ballot ∷ ballots) (log ∷ logs) =
    record { stream = s; epoch = ballot; log = log } ∷ carried_from (suc s) ballots logs

-- the logs in a message; a batch that is sent alone is a log of one batch
abbrev pub carried : Msg → List Carried
carried (Promise from to e ballots logs) = carried_from 1 ballots logs
carried (Sync from to e s log) = record { stream = s; epoch = e; log = log } ∷ []
carried (Accept from to e s slot batch) = record { stream = s; epoch = e; log = batch ∷ [] } ∷ []
carried other = []

-- the stream that a message names, where it names one
abbrev pub stream_named : Msg → Option ℕ
stream_named (Sync from to e s log) = Some s
stream_named (Accept from to e s slot batch) = Some s
stream_named (Ack from to e s len) = Some s
stream_named (Known from to e s len) = Some s
stream_named other = None

-- the candidate or leader that sent a message, or to which it answers
abbrev pub proposer_in : Msg → ℕ
proposer_in (Promise from to e ballots logs) = to
proposer_in (Ack from to e s len) = to
proposer_in other = (head_of other).from

-- ---- what is wrong with a log ----

-- some bytes encode no batch
abbrev pub has_no_batch : Carried → Bool
has_no_batch c = not (are_batches c.log)

-- an item is another worker's than the stream's
abbrev pub has_other_worker : Carried → Bool
has_other_worker c = list_any (λ x. not (x.worker == c.stream)) (items_along (batches_of c.log))

-- a batch is of an epoch above the greatest
abbrev pub has_later_epoch : Carried → Bool
has_later_epoch c = list_any (λ s. nat_lt c.epoch s.epoch) (stamps_along (batches_of c.log))

-- the stamps do not rise
abbrev pub has_disorder : Carried → Bool
has_disorder c = not (are_rising (stamps_along (batches_of c.log)))

-- a write is at a key that is there, and its row, where there is one, has its table's columns
abbrev pub write_fits : List Table → Write → Bool
write_fits tables w =
    nat_lt w.table (length tables) && nat_lt w.key (size_of tables w.table)
    && option_map_or (λ row. length row == columns_of tables w.table) w.row true

-- a write does not fit the tables
abbrev pub has_misfit : List Table → Carried → Bool
has_misfit tables c =
    list_any (λ (x : Item). not (list_all (write_fits tables) x.writes)) (items_along (batches_of c.log))

-- one of these is wrong
abbrev pub is_wrong : List Table → Carried → Bool
is_wrong tables c =
    has_no_batch c || has_other_worker c || has_later_epoch c || has_disorder c || has_misfit tables c

-- ---- what is wrong between a message and any node of the run ----

-- the receiver is another node, or the sender or the stream is not there
abbrev pub is_astray : Setup → (a : ℕ) → Msg → Bool
is_astray setup a m =
    not ((head_of m).to == a) || not (is_node setup.nodes (head_of m).from)
    || option_map_or (λ s. not (is_node setup.workers s)) (stream_named m) false

-- the epoch belongs to another node than the one that proposes in it
abbrev pub is_usurped : Setup → Msg → Bool
is_usurped setup m = not (owner_of (head_of m).epoch setup.nodes == proposer_in m)

-- a Promise has not one part for each stream
abbrev pub is_partial : Setup → Msg → Bool
is_partial setup (Promise from to e ballots logs) =
    not (length ballots == setup.workers) || not (length logs == setup.workers)
is_partial setup other = false

-- ---- what is wrong between a message and the node as it is ----

-- one log begins another
abbrev pub begins : Log → Log → Bool
begins [] log = true
begins (x ∷ xs) [] = false
begins (x ∷ xs) (y ∷ ys) = bytes_eq x y && begins xs ys

-- the first of some stamps is above the last of those before
abbrev pub goes_on : (before after : List Stamp) → Bool
goes_on before after =
    option_map_or (λ last. option_map_or (is_below last) (first_stamp after) true) (last_stamp before) true

-- the acceptor would append a batch
abbrev pub would_append : Acceptor → (e s slot : ℕ) → Bool
would_append x e s slot = not (is_some (refuses_accept x e s slot)) && (slot == length (kept_log x s))

-- the acceptor would adopt a log
abbrev pub would_adopt : Acceptor → (e s : ℕ) → Bool
would_adopt x e s = not (is_some (refuses x e)) && nat_lt (kept_ballot x s) e

-- the node is the candidate of an epoch, and one of some ballots is not below it
abbrev pub is_early : Part → (e : ℕ) → (ballots : List ℕ) → Bool
is_early (Stands c) e ballots = (c.epoch == e) && list_any (nat_le e) ballots
is_early other e ballots = false

-- the node leads an epoch, and its log of a stream is shorter
abbrev pub is_past_end : Part → (e s len : ℕ) → Bool
is_past_end (Leads lead) e s len = (lead.epoch == e) && nat_lt (length (leading lead s).log) len
is_past_end other e s len = false

-- a Promise at the candidate with a ballot that is not below its epoch; a Sync that would drop a known batch; an Accept that would
-- append a batch whose stamps do not go on; an Ack at the leader of more than its log
abbrev pub is_untrue : NodeState → Msg → Bool
is_untrue x (Promise from to e ballots logs) = is_early x.part e ballots
is_untrue x (Sync from to e s log) = would_adopt x.acceptor e s && not (begins (known_log x s) log)
is_untrue x (Accept from to e s slot batch) =
    would_append x.acceptor e s slot
    && not (goes_on (stamps_along (batches_of (kept_log x.acceptor s))) (stamps_along (batches_of (batch ∷ []))))
is_untrue x (Ack from to e s len) = is_past_end x.part e s len
is_untrue x other = false

-- ---- all of it ----

-- node a takes no such message
abbrev pub is_bad : Setup → (a : ℕ) → NodeState → Msg → Bool
is_bad setup a x m =
    is_astray setup a m || is_usurped setup m || is_partial setup m
    || list_any (is_wrong setup.program.tables) (carried m) || is_untrue x m
