-- What the fields of a node stand for.
use Rattle.std.specs.Prelude.{◌≡◌, ℕ, ◌-◌, ◌≤◌, ◌<◌, List, [], map, length, Bool, true, false, Option, Some, None, slice_get, slice_index_or}
use Rattle.rl_election.specs.World.{State, Up, Down, Lost, no_stream}
use Rattle.rl_paxos.specs.Acceptors.{Acceptor}
use Rattle.rl_paxos.specs.Logs.{Log}
use Rattle.rl_tables.specs.Numbers.{sizes_of}
use Rattle.rl_txn.specs.declared.item.Item.{Item}
use Rattle.rl_worker.specs.Acts.{Core, Turn}
use Rattle.rl_worker.specs.Opening.{CoreFits, core_after}
use Rattle.rl_worker.specs.Workers as worker
use Rattle.rl_worker.specs.declared.worker.Worker.{Worker}
use Rattle.rl_nodes.specs.Calls.{Standing}
use Rattle.rl_nodes.specs.Nodes.{Lead, Part, Follows, Stands as StandsFor, Leads, nothing_known, opening_replica}
use Rattle.rl_nodes.specs.Openings.{opening_leader}
use Rattle.rl_nodes.specs.Setups.{Setup}
use Rattle.rl_node.specs.Fits.{IsStream, AcceptorFits, RunningFits, CandidateFits, LeadFits}
use Rattle.rl_node.specs.Keeping.{HasBegun, KeepsStream}
use Rattle.rl_node.specs.declared.node.Node.{Node}
use Rattle.rl_node.specs.declared.node.Phase.{Phase}
use Rattle.rl_node.specs.declared.node.Phase.TheVariants as phase
use Rattle.rl_node.specs.declared.part.Lead as leads
use Rattle.rl_node.specs.declared.part.Part as parts
use Rattle.rl_node.specs.declared.part.Part.TheVariants as part
use Rattle.rl_node.specs.declared.part.Works.{Works}
use Rattle.rl_node.specs.declared.running.Running.{Running}

-- ---- the workers of an open leader ----

-- worker w of the code is the one of the core
pub record IsWorkerOf (setup : Setup) (e w : ℕ) (works : Works) (core : Core) (x : Worker) : Type 0 where
  pub number : worker.number_of x ≡ w
  pub epoch : worker.epoch_of x ≡ e
  pub fits : worker.WorkerFits setup.program.tables setup.program.lists x
  pub stands : worker.Stands setup.program.tables x works.words core

-- the log of a stream of a leader, and the pending items of a worker
abbrev pub log_of : leads.Lead → (s : ℕ) → Log
log_of l s = (slice_index_or l.streams.items (s - 1) no_stream).log

abbrev pub pending_in : leads.Lead → (w : ℕ) → List Item
pending_in l w = slice_index_or l.pending.items (w - 1) []

-- a leader has not opened: on each stream its epoch has begun, and nothing is pending
pub record HasNotOpened (setup : Setup) (l : leads.Lead) : Type 0 where
  pub begun : (s : ℕ) → IsStream setup s → HasBegun l.epoch (log_of l s)
  pub pending : (s : ℕ) → IsStream setup s → pending_in l s ≡ []

-- the records and workers of the code are those of a core that opened with some items and made some turns since
pub record AreWorksOf (setup : Setup) (l : leads.Lead) (works : Works) (core : Core) : Type 0 where
  pub layout : works.layout ≡ sizes_of setup.program.tables
  pub records : worker.RecordsFit setup.program.tables works.words.records.items
  pub count : length works.workers.items ≡ setup.workers
  pub each : (w : ℕ) (x : Worker) → 1 ≤ w → slice_get works.workers.items (w - 1) ≡ Some x
      → IsWorkerOf setup l.epoch w works core x
  pub items : List Item
  pub turns : List Turn
  pub opens : CoreFits (opening_leader setup.program l.epoch items)
  pub after : core ≡ core_after (opening_leader setup.program l.epoch items) turns
  pub keeps : (w : ℕ) (x : Worker) → 1 ≤ w → slice_get works.workers.items (w - 1) ≡ Some x
      → KeepsStream (opening_leader setup.program l.epoch items) w (log_of l w) (pending_in l w) x core

-- fewer items are pending of each worker than make a batch
abbrev pub HasFew : Setup → leads.Lead → Type 0
HasFew setup l = (w : ℕ) → IsStream setup w → length (pending_in l w) < setup.batch

-- there are records and workers once there is a core
abbrev pub HasWorksOf : Setup → leads.Lead → Option Works → Option Core → Type 0
HasWorksOf setup l None None = HasNotOpened setup l
HasWorksOf setup l (Some works) (Some core) = AreWorksOf setup l works core × HasFew setup l
HasWorksOf setup l works core = ⊥

-- ---- parts ----

-- a leader, with the core of its workers
abbrev pub lead_with : leads.Lead → Option Core → Lead
lead_with l core = record { epoch = l.epoch; streams = l.streams.items; core = core; pending = l.pending.items }

-- a leader stands for one whose core has its records and workers
pub record StandsLead (setup : Setup) (l : leads.Lead) (x : Part) : Type 0 where
  pub core : Option Core
  pub is : x ≡ Leads (lead_with l core)
  pub works : HasWorksOf setup l l.works core
  pub fits : LeadFits setup l

-- a part stands for a follower, a candidate or a leader
abbrev pub StandsPart : Setup → parts.Part → Part → Type 0
StandsPart setup part.Follows x = x ≡ Follows
StandsPart setup (part.Stands c) x = (x ≡ StandsFor c) × CandidateFits setup c
StandsPart setup (part.Leads l) x = StandsLead setup l x

-- ---- a node ----

-- a node that is up, with its part
abbrev pub up_with : Acceptor → Running → Part → Standing
up_with acceptor r x = record {
  node = record {
    state = Up;
    acceptor = acceptor;
    known = map length r.known;
    replica = r.replica.replaying;
    part = x;
  };
  failed = r.failed;
}

-- a node that is not up has its acceptor alone
abbrev pub away_with : Setup → Acceptor → State → Standing
away_with setup acceptor state = record {
  node = record {
    state = state;
    acceptor = acceptor;
    known = nothing_known setup;
    replica = opening_replica setup;
    part = Follows;
  };
  failed = None;
}

-- what a node has while it is up stands for a node
pub record StandsUp (setup : Setup) (acceptor : Acceptor) (r : Running) (x : Standing) : Type 0 where
  pub fits : RunningFits setup acceptor r
  pub part : Part
  pub stands : StandsPart setup r.part part
  pub is : x ≡ up_with acceptor r part

-- by whether it is up
abbrev pub StandsIn : Setup → Acceptor → Phase → Standing → Type 0
StandsIn setup acceptor (phase.Up r) x = StandsUp setup acceptor r x
StandsIn setup acceptor phase.Down x = x ≡ away_with setup acceptor Down
StandsIn setup acceptor phase.Lost x = x ≡ away_with setup acceptor Lost

-- the fields of node a of a run stand for a node, with the answer that it repeats until it crashes
pub record Stands (setup : Setup) (a : ℕ) (n : Node) (x : Standing) : Type 0 where
  pub number : n.id ≡ a
  pub first : 1 ≤ a
  pub last : a ≤ setup.nodes
  pub acceptor : AcceptorFits setup n.acceptor
  pub phase : StandsIn setup n.acceptor n.phase x

-- a node of a run: it stands for some node
abbrev pub IsNode : Setup → Node → Type 0
IsNode setup n = (a : ℕ) × (x : Standing) × Stands setup a n x

-- whether its fields are those of a node that is up
abbrev pub is_up_in : Phase → Bool
is_up_in (phase.Up r) = true
is_up_in other = false

abbrev pub is_running : Node → Bool
is_running n = is_up_in n.phase

-- or of one that is down
abbrev pub is_down_in : Phase → Bool
is_down_in phase.Down = true
is_down_in other = false

abbrev pub is_down : Node → Bool
is_down n = is_down_in n.phase

-- something holds whatever a node stands for
abbrev pub ForStanding : Node → (Setup → (a : ℕ) → Standing → Type 0) → Type 0
ForStanding n P = (setup : Setup) (a : ℕ) (x : Standing) → Stands setup a n x → P setup a x

-- or a part
abbrev pub ForPart : Setup → parts.Part → (Part → Type 0) → Type 0
ForPart setup p P = (x : Part) → StandsPart setup p x → P x

-- a part of a node
abbrev pub IsPart : Setup → parts.Part → Type 0
IsPart setup p = (x : Part) × StandsPart setup p x
