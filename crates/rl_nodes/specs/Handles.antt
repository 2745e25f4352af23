-- What a node that is up does with a message.
use Rattle.std.specs.Prelude.{ℕ, ◌-◌, ◌==◌, min, max, nat_lt, List, [], ◌∷◌, map, drop, length, replicate, slice_set, if◌then◌else◌, Some, None, Ok, Err}
use Rattle.std.specs.List.{list_any, flat_map}
use Rattle.std.specs.Result.{result_ok}
use Rattle.std.specs.Option.{option_map_or}
use Rattle.rl_base.specs.declared.limit.TheConstants.{SLOTS}
use Rattle.rl_txn.specs.declared.item.Item.{Item}
use Rattle.rl_paxos.specs.Acceptors.{Kept, Acceptor, kept_ballot, kept_log, refuses, refuses_accept, prepared, synced, accepted}
use Rattle.rl_paxos.specs.Leaders.{new_leading, with_ack}
use Rattle.rl_paxos.specs.Recovery.{Promise, Candidate, with_promise, recovered_logs}
use Rattle.rl_election.specs.StreamEvents.{initial_logs}
use Rattle.rl_msg.specs.declared.msg.Msg.{Msg}
use Rattle.rl_msg.specs.declared.msg.Msg.TheVariants as msg
use Rattle.rl_msg.specs.Reading.{read_msg}
use Rattle.rl_nodes.specs.declared.node_error.NodeError.TheVariants.{BadMessage, StreamFull}
use Rattle.rl_nodes.specs.Answers.{Did, Answer, sending, quiet, unless_denied, to_each}
use Rattle.rl_nodes.specs.BadMessages.{is_bad}
use Rattle.rl_nodes.specs.Nodes.{Lead, NodeState, Part, Stands, Leads, known_len, leading, with_leading, initial_log_of, len_acknowledged, acknowledged_history, has_opened, marks_are_acknowledged}
use Rattle.rl_nodes.specs.Setups.{Setup, stream_numbers, cluster_of}

-- ---- at an acceptor ----

-- node a promises an epoch to a candidate, with its ballots and logs
abbrev pub promises : (a : ℕ) → NodeState → (candidate e : ℕ) → Did
promises a x candidate e =
    let ballots = map (λ (k : Kept). k.ballot) x.acceptor.streams in
    let logs = map (λ (k : Kept). k.log) x.acceptor.streams in
    sending (record x { acceptor = prepared x.acceptor e }) (msg.Promise a candidate e ballots logs ∷ [])

-- node a has another acceptor, and acks the length of stream s to a leader
abbrev pub acks : (a : ℕ) → NodeState → (leader e s : ℕ) → Acceptor → Did
acks a x leader e s acceptor =
    sending (record x { acceptor = acceptor }) (msg.Ack a leader e s (length (kept_log acceptor s)) ∷ [])

-- at the ballot of an epoch, a node knows so many batches of its log to be chosen, if it knew of fewer
abbrev pub knows : NodeState → (e s len : ℕ) → NodeState
knows x e s len =
    let more = max (known_len x s) (min len (length (kept_log x.acceptor s))) in
    if kept_ballot x.acceptor s == e then record x { known = slice_set x.known (s - 1) more } else x

-- ---- at a candidate ----

-- a Sync of the log with which a leader began on stream s
abbrev pub sync_to : (a : ℕ) → Lead → (s to : ℕ) → Msg
sync_to a lead s to = msg.Sync a to lead.epoch s (initial_log_of (leading lead s))

-- a candidate as the leader of its epoch: each stream begins with the recovered log and the open mark
abbrev pub new_lead : Setup → Candidate → Lead
new_lead setup c = record {
  epoch = c.epoch;
  streams = map (new_leading c.epoch setup.nodes setup.second_quorum) (initial_logs (cluster_of setup) c);
  core = None;
  pending = replicate setup.workers [];
}

-- a candidate leads, and sends the log of each stream to each node
abbrev pub leads : Setup → (a : ℕ) → NodeState → Candidate → Did
leads setup a x c =
    let lead = new_lead setup c in
    sending (record x { part = Leads lead }) (flat_map (λ s. to_each setup (sync_to a lead s)) (stream_numbers setup))

-- a log that would be recovered has no slot left for the open mark
abbrev pub recovers_full : Setup → Candidate → Answer → Answer
recovers_full setup c answer =
    if list_any (λ log. length log == SLOTS) (recovered_logs c.promises setup.workers) then Err (StreamFull SLOTS) else answer

-- with the promises that it needs a candidate leads, and before it stands on
abbrev pub stands_or_leads : Setup → (a : ℕ) → NodeState → Candidate → Answer
stands_or_leads setup a x c =
    if nat_lt (length c.promises) c.need then Ok (quiet (record x { part = Stands c }))
    else recovers_full setup c (Ok (leads setup a x c))

-- a Promise counts for the candidate of its epoch, and is skipped by any other node
abbrev pub takes_promise : Setup → (a : ℕ) → NodeState → (e : ℕ) → Promise → Part → Answer
takes_promise setup a x e p (Stands c) =
    if c.epoch == e then stands_or_leads setup a x (with_promise c p) else Ok (quiet x)
takes_promise setup a x e p other = Ok (quiet x)

-- ---- at a leader ----

-- a Known of how much of stream s a second quorum has acked
abbrev pub known_to : (a : ℕ) → Lead → (s to : ℕ) → Msg
known_to a lead s to = msg.Known a to lead.epoch s (len_acknowledged (leading lead s))

-- a leader opens with the history of what a second quorum has acked, and releases it
abbrev pub opens : Setup → NodeState → Lead → List Msg → Did
opens setup x lead sends =
    let items = acknowledged_history lead in
    let core = setup.work.opening lead.epoch items in
    record (sending (record x { part = Leads (record lead { core = Some core }) }) sends) {
      opened = Some (record { epoch = lead.epoch; items = items });
      release = Some (record { epoch = lead.epoch; history = items; gained = items });
    }

-- an open leader releases what its history has gained since a history before
abbrev pub releases : NodeState → (before : List Item) → Lead → List Msg → Did
releases x before lead sends =
    let items = acknowledged_history lead in
    record (sending (record x { part = Leads lead }) sends) {
      release = Some (record { epoch = lead.epoch; history = items; gained = drop (length before) items });
    }

-- where a second quorum has acked more of stream s, each node is told; then an open leader releases, and another opens if it can
abbrev pub advances : Setup → (a : ℕ) → NodeState → (old new : Lead) → (s : ℕ) → Did
advances setup a x old new s =
    let sends = to_each setup (known_to a new s) in
    if has_opened new then releases x (acknowledged_history old) new sends
    else if marks_are_acknowledged new then opens setup x new sends
    else sending (record x { part = Leads new }) sends

-- an Ack of stream s counts
abbrev pub counts_ack : Setup → (a : ℕ) → NodeState → Lead → (s from len : ℕ) → Did
counts_ack setup a x lead s from len =
    let new = with_leading lead s (with_ack (leading lead s) from len) in
    if nat_lt (len_acknowledged (leading lead s)) (len_acknowledged (leading new s)) then advances setup a x lead new s
    else quiet (record x { part = Leads new })

-- an Ack counts for the leader of its epoch, and is skipped by any other node
abbrev pub takes_ack : Setup → (a : ℕ) → NodeState → (e s from len : ℕ) → Part → Did
takes_ack setup a x e s from len (Leads lead) =
    if lead.epoch == e then counts_ack setup a x lead s from len else quiet x
takes_ack setup a x e s from len other = quiet x

-- ---- any message ----

-- node a takes a message that is not bad
abbrev pub takes : Setup → (a : ℕ) → NodeState → Msg → Answer
takes setup a x (msg.Prepare from to e) = Ok (unless_denied (refuses x.acceptor e) x (promises a x from e))
takes setup a x (msg.Promise from to e ballots logs) =
    takes_promise setup a x e (record { node = from; ballots = ballots; logs = logs }) x.part
takes setup a x (msg.Sync from to e s log) =
    Ok (unless_denied (refuses x.acceptor e) x (acks a x from e s (synced x.acceptor e s log)))
takes setup a x (msg.Accept from to e s slot batch) =
    Ok (unless_denied (refuses_accept x.acceptor e s slot) x (acks a x from e s (accepted x.acceptor s slot batch)))
takes setup a x (msg.Ack from to e s len) = Ok (takes_ack setup a x e s from len x.part)
takes setup a x (msg.Known from to e s len) = Ok (quiet (knows x e s len))

-- node a receives a message
abbrev pub receives : Setup → (a : ℕ) → NodeState → Msg → Answer
receives setup a x m = if is_bad setup a x m then Err BadMessage else takes setup a x m

-- node a receives some bytes
abbrev pub handles : Setup → (a : ℕ) → NodeState → (bytes : List ℕ) → Answer
handles setup a x bytes = option_map_or (receives setup a x) (result_ok (read_msg bytes)) (Err BadMessage)
