-- Messages that a node refuses as bad, each for another cause, and good ones beside them, computed from the definitions.
use Rattle.std.specs.Prelude.{◌≡◌, ℕ, List, [], ◌∷◌, map, replicate, Bool, true, false, Some, None, Err, refl}
use Rattle.rl_base.specs.declared.stamp.Stamp.{Stamp}
use Rattle.rl_fields.specs.Fields.{whole, within, number, string, series, several}
use Rattle.rl_batch.specs.Encoding.{batch_bytes}
use Rattle.rl_batch.specs.Reading as batch
use Rattle.rl_msg.specs.Reading as msg
use Rattle.rl_msg.specs.Encoding.{msg_bytes}
use Rattle.rl_msg.specs.declared.msg.Msg.{Msg}
use Rattle.rl_msg.specs.declared.msg.Msg.TheVariants.{Prepare, Promise, Sync, Accept, Ack, Known}
use Rattle.rl_txn.specs.declared.batch.Batch.TheVariants.{Items}
use Rattle.rl_txn.specs.declared.item.Item.{Item}
use Rattle.rl_txn.specs.declared.write.End.TheVariants.{Done}
use Rattle.rl_families.specs.Leaders.{open_mark}
use Rattle.rl_paxos.specs.Acceptors.{with_kept}
use Rattle.rl_paxos.specs.Leaders.{new_leading}
use Rattle.rl_paxos.specs.Recovery.{new_candidate}
use Rattle.rl_nodes.proofs.Scripts.{setup_of}
use Rattle.rl_nodes.specs.declared.node_error.NodeError.TheVariants.{BadMessage, StreamFull}
use Rattle.rl_nodes.specs.BadMessages.{is_bad}
use Rattle.rl_nodes.specs.Batches.{idle_mark}
use Rattle.rl_nodes.specs.Handles.{handles, stands_or_leads}
use Rattle.rl_nodes.specs.Nodes.{NodeState, Stands, Leads, new_node}
use Rattle.rl_nodes.specs.Setups.{Setup}

-- three nodes, two streams, and one table of two keys and one column
abbrev setup : Setup
setup = setup_of (record { nodes = 3; quorums = (2, 2); workers = 2; batch = 1; tables = (2, 1) ∷ []; rows = []; lists = [] ∷ [] ∷ [] })

-- a node to which nothing was sent
abbrev new : NodeState
new = new_node setup

abbrev opened : (epoch : ℕ) → List ℕ
opened epoch = batch_bytes (open_mark epoch)

abbrev idle : (epoch seq : ℕ) → List ℕ
idle epoch seq = batch_bytes (idle_mark epoch seq)

-- a batch with one item of a worker, which writes one row at a key of table 0
abbrev item_at : (worker seq key : ℕ) → (row : List ℕ) → List ℕ
item_at worker seq key row =
    let stamp : Stamp = record { epoch = 1; seq = seq } in
    let item : Item = record { stamp = stamp; worker = worker; index = 1; reply = record { outs = []; end = Done }; writes = record { table = 0; key = key; row = Some row } ∷ [] } in
    batch_bytes (Items (item ∷ []))

-- node 2 has adopted the log of epoch 1 on stream 1, and knows one batch to be chosen
abbrev follower : NodeState
follower = record new { acceptor = with_kept (record new.acceptor { promised = 1 }) 1 1 (opened 1 ∷ idle 1 5 ∷ []); known = 1 ∷ 0 ∷ [] }

-- node 1 is the candidate of epoch 4
abbrev candidate : NodeState
candidate = record new { acceptor = record new.acceptor { promised = 4 }; part = Stands (new_candidate 4 3 2 2) }

-- node 1 leads epoch 1, with the open mark alone on each stream
abbrev leader : NodeState
leader = record new { part = Leads (record { epoch = 1; streams = replicate 2 (new_leading 1 3 2 (opened 1 ∷ [])); core = None; pending = [] ∷ [] ∷ [] }) }

-- whether node a, as it is, refuses each of some messages
abbrev bad : (a : ℕ) → NodeState → List Msg → List Bool
bad a x messages = map (is_bad setup a x) messages

-- to another node, from a node that is not there, of a stream that is not there
astray : bad 2 new (Prepare 1 1 1 ∷ Prepare 4 2 4 ∷ Known 1 2 1 3 1 ∷ Known 1 2 1 0 1 ∷ []) ≡ true ∷ true ∷ true ∷ true ∷ []
unfolding whole within number string series several batch.batch batch.rising batch.numbers batch.row batch.write batch.writes batch.item batch.items batch.mark
astray = refl

-- a sender that the epoch does not belong to; a receiver of a Promise or an Ack that it does not belong to
usurped : bad 2 new (Prepare 1 2 2 ∷ Sync 3 2 1 1 [] ∷ Known 3 2 1 1 0 ∷ Ack 1 2 1 1 0 ∷ Promise 1 2 1 (0 ∷ 0 ∷ []) ([] ∷ [] ∷ []) ∷ []) ≡ true ∷ true ∷ true ∷ true ∷ true ∷ []
unfolding whole within number string series several batch.batch batch.rising batch.numbers batch.row batch.write batch.writes batch.item batch.items batch.mark
usurped = refl

-- bytes that are no batch, an item of another worker, an epoch above the message's, stamps that do not rise, a key and a row that do not fit
wrong_logs : bad 2 new (
    Sync 1 2 1 1 ((9 ∷ []) ∷ [])
    ∷ Sync 1 2 1 2 (opened 1 ∷ item_at 1 2 0 (5 ∷ []) ∷ [])
    ∷ Sync 1 2 1 1 (opened 2 ∷ [])
    ∷ Sync 1 2 1 1 (opened 1 ∷ idle 1 5 ∷ idle 1 5 ∷ [])
    ∷ Sync 1 2 1 1 (opened 1 ∷ item_at 1 2 2 (5 ∷ []) ∷ [])
    ∷ Sync 1 2 1 1 (opened 1 ∷ item_at 1 2 0 (5 ∷ 6 ∷ []) ∷ [])
    ∷ []) ≡ true ∷ true ∷ true ∷ true ∷ true ∷ true ∷ []
unfolding whole within number string series several batch.batch batch.rising batch.numbers batch.row batch.write batch.writes batch.item batch.items batch.mark
wrong_logs = refl

-- a Promise of one stream of two; one with a batch of an epoch above its ballot; and at the candidate of its epoch one with a ballot that is
-- not below it, which another node takes
promises : bad 1 candidate (
    Promise 2 1 4 (0 ∷ []) ([] ∷ [])
    ∷ Promise 2 1 4 (1 ∷ 0 ∷ []) ((opened 2 ∷ []) ∷ [] ∷ [])
    ∷ Promise 2 1 4 (4 ∷ 0 ∷ []) ((opened 4 ∷ []) ∷ [] ∷ [])
    ∷ Promise 2 1 4 (1 ∷ 0 ∷ []) ((opened 1 ∷ []) ∷ [] ∷ [])
    ∷ []) ≡ true ∷ true ∷ true ∷ false ∷ []
unfolding whole within number string series several batch.batch batch.rising batch.numbers batch.row batch.write batch.writes batch.item batch.items batch.mark
promises = refl

promise_elsewhere : bad 1 new (Promise 2 1 4 (4 ∷ 0 ∷ []) ((opened 4 ∷ []) ∷ [] ∷ []) ∷ []) ≡ false ∷ []
unfolding whole within number string series several batch.batch batch.rising batch.numbers batch.row batch.write batch.writes batch.item batch.items batch.mark
promise_elsewhere = refl

-- an Accept that would be appended and whose stamp is not above the log's last; for an earlier slot it is taken, and so is a higher stamp
accepts : bad 2 follower (Accept 1 2 1 1 2 (idle 1 5) ∷ Accept 1 2 1 1 1 (idle 1 5) ∷ Accept 1 2 1 1 2 (idle 1 6) ∷ []) ≡ true ∷ false ∷ false ∷ []
unfolding whole within number string series several batch.batch batch.rising batch.numbers batch.row batch.write batch.writes batch.item batch.items batch.mark
accepts = refl

-- a Sync that would be adopted and drops the known prefix; one that keeps it, and one of the ballot that the node has, are taken
syncs : bad 2 follower (Sync 1 2 4 1 (opened 4 ∷ []) ∷ Sync 1 2 4 1 (opened 1 ∷ opened 4 ∷ []) ∷ Sync 1 2 1 1 (idle 1 3 ∷ []) ∷ []) ≡ true ∷ false ∷ false ∷ []
unfolding whole within number string series several batch.batch batch.rising batch.numbers batch.row batch.write batch.writes batch.item batch.items batch.mark
syncs = refl

-- an Ack at the leader of its epoch of more than the log; at another node it is taken
acks : bad 1 leader (Ack 2 1 1 1 2 ∷ Ack 2 1 1 1 1 ∷ Ack 2 1 4 1 2 ∷ []) ≡ true ∷ false ∷ false ∷ []
unfolding whole within number string series several batch.batch batch.rising batch.numbers batch.row batch.write batch.writes batch.item batch.items batch.mark
acks = refl

-- no bytes, a Prepare to another node, and a Known from a node that the epoch does not belong to
no_bytes : handles setup 1 new [] ≡ Err BadMessage
unfolding whole msg.msg
no_bytes = refl

other_receiver : handles setup 1 new (1 ∷ 1 ∷ 2 ∷ 0 ∷ 0 ∷ 0 ∷ 1 ∷ []) ≡ Err BadMessage
unfolding whole within number msg.msg msg.head
other_receiver = refl

other_sender : handles setup 1 new (msg_bytes (Known 2 1 1 1 1)) ≡ Err BadMessage
unfolding whole within number msg.msg msg.head msg.known msg.stream_and_slot
other_sender = refl

-- a log with no slot left for the open mark is not recovered
full : stands_or_leads setup 1 new (record (new_candidate 4 3 2 1) { promises = record { node = 2; ballots = 1 ∷ 0 ∷ []; logs = replicate 4096 [] ∷ [] ∷ [] } ∷ [] }) ≡ Err (StreamFull 4096)
full = refl
