-- What the workers of an open leader do in their turns, and what it proposes for them.
use Rattle.std.specs.Prelude.{ℕ, ◌-◌, ◌*◌, ◌^◌, ◌==◌, ◌&&◌, not, nat_lt, List, [], ◌++◌, length, Bool, if◌then◌else◌, Some, option_to_list, option_map, Ok, Err}
use Rattle.std.specs.Option.{option_map_or}
use Rattle.rl_base.specs.Results.{◌>>=◌}
use Rattle.rl_base.specs.declared.limit.TheConstants.{SLOTS}
use Rattle.rl_paxos.specs.Leaders.{proposed}
use Rattle.rl_txn.specs.declared.item.Item.{Item}
use Rattle.rl_txn.specs.declared.batch.Batch.{Batch}
use Rattle.rl_txn.specs.declared.batch.Batch.TheVariants.{Items}
use Rattle.rl_batch.specs.Encoding.{batch_bytes}
use Rattle.rl_msg.specs.declared.msg.Msg.TheVariants.{Accept}
use Rattle.rl_worker.specs.Phases.{Phase, Rest, Asking, Wanting, Loading, Locking, Validating, Storing, Refusing}
use Rattle.rl_worker.specs.Acts.{Core, Step, Idle, phase_of, resting, is_done, turn}
use Rattle.rl_worker.specs.OneTurn.{newly_ended, newly_refused}
use Rattle.rl_worker.specs.Opening.{item_seen}
use Rattle.rl_nodes.specs.declared.node_error.NodeError.TheVariants.{StreamFull}
use Rattle.rl_nodes.specs.Answers.{Answer, sending, quiet, to_each}
use Rattle.rl_nodes.specs.Batches.{END_SEQ, idle_mark}
use Rattle.rl_nodes.specs.Nodes.{Lead, NodeState, Part, Leads, leading, with_leading, pending_of, with_pending, has_end_mark}
use Rattle.rl_nodes.specs.Setups.{Setup}

-- ---- proposals ----

-- the leader proposes a batch on stream s: it takes the next slot, and goes to each node
abbrev pub proposes : Setup → (a : ℕ) → NodeState → Lead → (s : ℕ) → Batch → Answer
proposes setup a x lead s batch =
    let stream = leading lead s in
    let bytes = batch_bytes batch in
    if length stream.log == SLOTS then Err (StreamFull SLOTS)
    else Ok (sending (record x { part = Leads (with_leading lead s (proposed stream bytes)) })
    (to_each setup (λ to. Accept a to lead.epoch s (length stream.log) bytes)))

-- it proposes some items of worker s as one batch, and has no pending items of that worker then
abbrev pub proposes_items : Setup → (a : ℕ) → NodeState → Lead → (s : ℕ) → List Item → Answer
proposes_items setup a x lead s items = proposes setup a x (with_pending lead s []) s (Items items)

-- ---- turns of the core ----

-- the index of the request that a worker is at
abbrev pub request_in : Phase → ℕ
request_in (Rest q) = q
request_in (Asking q reads) = q
request_in (Wanting q reads r) = q
request_in (Loading q reads r seen loaded) = q
request_in (Locking q reads answer locked todo) = q
request_in (Validating q t done todo answer writes) = q
request_in (Storing item stored todo) = item.index
request_in (Refusing q todo) = q

-- ---- a step ----

-- the leader after a step of worker w: an item that has ended is pending
abbrev pub stepped : Lead → (before after : Core) → (w : ℕ) → Lead
stepped lead before after w =
    with_pending (record lead { core = Some after }) w
    (pending_of lead w ++ option_to_list (option_map (item_seen lead.epoch) (newly_ended before after)))

-- as many pending items as make a batch are proposed at once
abbrev pub proposes_full : Setup → (a : ℕ) → NodeState → Lead → (w : ℕ) → Answer
proposes_full setup a x lead w =
    if nat_lt (length (pending_of lead w)) setup.batch then Ok (quiet (record x { part = Leads lead }))
    else proposes_items setup a x lead w (pending_of lead w)

-- one step of worker w
abbrev pub steps_core : Setup → (a : ℕ) → NodeState → Lead → (w : ℕ) → Core → Answer
steps_core setup a x lead w core =
    let after = turn (setup.work.setting lead.epoch) core (Step w) in
    proposes_full setup a x (stepped lead core after w) w >>= λ did. Ok (record did { refusal = newly_refused core after })

-- ---- an idle mark ----

-- worker w of the leader may propose an idle mark: it rests, none of its items is pending, and its stream has no end mark yet
abbrev pub may_idle : Lead → (w : ℕ) → Core → Bool
may_idle lead w core =
    resting (phase_of core w) && (length (pending_of lead w) == 0) && not (has_end_mark lead w)

-- a worker with no request left proposes the end mark, and any other draws a stamp for its idle mark
abbrev pub idles_core : Setup → (a : ℕ) → NodeState → Lead → (w : ℕ) → Core → Answer
idles_core setup a x lead w core =
    let after = turn (setup.work.setting lead.epoch) core (Idle w) in
    if not (may_idle lead w core) then Ok (quiet x)
    else if is_done (setup.work.setting lead.epoch) w (phase_of core w)
    then proposes setup a x lead w (idle_mark lead.epoch END_SEQ)
    else proposes setup a x (record lead { core = Some after }) w (idle_mark lead.epoch (core.next - lead.epoch * 2 ^ 40))

-- ---- the events ----

-- what the leader of an open epoch does with its core; any other node does nothing
abbrev pub if_open : NodeState → Part → (Lead → Core → Answer) → Answer
if_open x (Leads lead) does = option_map_or (does lead) lead.core (Ok (quiet x))
if_open x other does = Ok (quiet x)

-- node a makes a step of worker w
abbrev pub steps : Setup → (a : ℕ) → NodeState → (w : ℕ) → Answer
steps setup a x w = if_open x x.part (λ lead core. steps_core setup a x lead w core)

-- it proposes the pending items of worker w, where there are any
abbrev pub flushes : Setup → (a : ℕ) → NodeState → (w : ℕ) → Answer
flushes setup a x w = if_open x x.part (λ lead core.
    if length (pending_of lead w) == 0 then Ok (quiet x) else proposes_items setup a x lead w (pending_of lead w))

-- it proposes an idle mark or the end mark of worker w, where it may
abbrev pub idles : Setup → (a : ℕ) → NodeState → (w : ℕ) → Answer
idles setup a x w = if_open x x.part (λ lead core. idles_core setup a x lead w core)

-- the next seq of the open leader, and 2 where the node is none
abbrev pub next_seq : Part → ℕ
next_seq (Leads lead) = option_map_or (λ core. core.next - lead.epoch * 2 ^ 40) lead.core 2
next_seq other = 2
