-- The leaders of a run: what the terms of its world and, by epoch, the turns of the workers say of them, and what holds of that
-- between any two events.
use Rattle.std.proofs.Common.{◌≡◌, ℕ, ◌-◌, ◌*◌, ◌^◌, ◌<◌, ◌≤◌, List, [], ◌∷◌, ◌++◌, length, map, take, drop, Bool, true, false, if◌then◌else◌, reverse, Option, Some, None, option_to_list, slice_index_or}
use Rattle.rl_base.specs.Lists.{IsPrefix}
use Rattle.rl_base.specs.declared.stamp.Stamp.{Stamp}
use Rattle.rl_base.proofs.Members.{In}
use Rattle.rl_txn.specs.declared.item.Item.{Item}
use Rattle.rl_txn.specs.declared.batch.Batch.{Batch}
use Rattle.rl_paxos.specs.Leaders.{Leading}
use Rattle.rl_paxos.specs.Logs.{Log}
use Rattle.rl_paxos.specs.Quorums.{is_node}
use Rattle.rl_election.specs.World.{Term, no_stream}
use Rattle.rl_families.specs.Families.{history}
use Rattle.rl_families.specs.Leaders.{Leaders, logs_of_streams, open_mark}
use Rattle.rl_families.specs.Logs.{stamps_along, items_along}
use Rattle.rl_worker.specs.Acts.{Core, Turn, phase_of}
use Rattle.rl_worker.specs.Laws.{stamps_by, IsTrueCause}
use Rattle.rl_worker.specs.OneTurn.{ended_by, installing}
use Rattle.rl_worker.specs.Opening.{OpenLeader, core_after, items_seen}
use Rattle.rl_worker.specs.Phases.{Setting}
use Rattle.rl_nodes.specs.Batches.{batches_of, END_SEQ}
use Rattle.rl_nodes.specs.Nodes.{Lead, Part, Follows, Stands, Leads, leading, initial_log_of, pending_of}
use Rattle.rl_nodes.specs.Openings.{opening_leader}
use Rattle.rl_nodes.specs.Setups.{Setup}
use Rattle.rl_nodes.specs.Streams.{HasBegun}
use Rattle.rl_nodes.specs.World.{World, Opened, Attempt, node_of}
use Rattle.rl_safe.proofs.Encodings.{AllEncode}
use Rattle.rl_safe.proofs.CoreTurns.{IsStuck, own_setting}

-- the turns that the workers of an epoch's leader made, and by worker the items that have ended and were not proposed yet
pub record Account : Type 0 where
  pub turns : List Turn
  pub pending : ℕ → List Item

abbrev pub no_account : Account
no_account = record { turns = []; pending = λ s. [] }

-- ---- the logs of a term ----

-- the initial log of a stream
abbrev pub first_at : List Log → (s : ℕ) → Log
first_at initial s = slice_index_or initial (s - 1) []

-- without its open mark
abbrev pub carried_at : List Log → (s : ℕ) → Log
carried_at initial s = take (length (first_at initial s) - 1) (first_at initial s)

-- its log
abbrev pub log_at : List Leading → (s : ℕ) → Log
log_at streams s = (slice_index_or streams (s - 1) no_stream).log

-- what stands behind the initial log
abbrev pub tail_of : (first log : Log) → Log
tail_of first log = drop (length first) log

module _ (setup : Setup) where
  abbrev pub carried_in : List Log → (s : ℕ) → List Batch
  carried_in initial s = if is_node setup.workers s then batches_of (carried_at initial s) else []

  abbrev pub told_in : List Log → List Leading → (s : ℕ) → List Batch
  told_in initial streams s =
      if is_node setup.workers s then batches_of (tail_of (first_at initial s) (log_at streams s)) else []

  abbrev pub recovered_of : Option Term → (s : ℕ) → List Batch
  recovered_of None s = []
  recovered_of (Some t) s = carried_in t.initial s

  abbrev pub proposed_of : Option Term → (s : ℕ) → List Batch
  proposed_of None s = []
  proposed_of (Some t) s = told_in t.initial t.streams s

  -- the opening list of an epoch that recovered these
  abbrev pub opening_of : (epoch : ℕ) → (ℕ → List Batch) → List Item
  opening_of epoch recovered = history (logs_of_streams setup.workers (λ s. recovered s ++ open_mark epoch ∷ []))

  abbrev pub leader_of : (epoch : ℕ) → (ℕ → List Batch) → OpenLeader
  leader_of epoch recovered = opening_leader setup.program epoch (opening_of epoch recovered)

  abbrev pub core_of : (epoch : ℕ) → (ℕ → List Batch) → List Turn → Core
  core_of epoch recovered turns = core_after (leader_of epoch recovered) turns

  -- what a worker installs: decided, and not ended yet
  abbrev pub open_items : (epoch s : ℕ) → Core → List Item
  open_items epoch s c = items_seen epoch (option_to_list (installing (phase_of c s)))

  -- ---- the leaders ----
  abbrev pub decided_of : (epoch : ℕ) → Option Term → Account → List Item
  decided_of epoch None account = []
  decided_of epoch (Some t) account = items_seen epoch (core_of epoch (carried_in t.initial) account.turns).decided

  abbrev pub waiting_of : (epoch : ℕ) → Option Term → Account → (s : ℕ) → List Item
  waiting_of epoch None account s = []
  waiting_of epoch (Some t) account s =
      if is_node setup.workers s
      then account.pending s ++ open_items epoch s (core_of epoch (carried_in t.initial) account.turns) else []

  abbrev pub leaders_of : (ℕ → Option Term) → (ℕ → Account) → Leaders
  leaders_of terms accounts = record {
    recovered = λ e s. recovered_of (terms e) s;
    proposed = λ e s. proposed_of (terms e) s;
    pending = λ e s. waiting_of e (terms e) (accounts e) s;
    decided = λ e. decided_of e (terms e) (accounts e);
  }

-- ---- what holds of them ----

abbrev pub stamp_at : (epoch n : ℕ) → Stamp
stamp_at epoch n = record { epoch = epoch; seq = n - epoch * 2 ^ 40 }

abbrev pub end_stamps : (epoch : ℕ) → Bool → List Stamp
end_stamps epoch true = record { epoch = epoch; seq = END_SEQ } ∷ []
end_stamps epoch false = []

-- along a stream behind the initial log, and then among what is pending, are the worker's ended items in their order, and the
-- stamps that it made, and then the end mark or none
pub record Says (S : Setting) (e s : ℕ) (batches : List Batch) (c : Core) (pending : List Item) : Type 0 where
  pub ends : Bool
  pub items : items_along batches ++ pending ≡ items_seen e (ended_by s c)
  pub stamps : stamps_along batches ++ map (λ (x : Item). x.stamp) (pending ++ items_seen e (option_to_list (installing (phase_of c s))))
      ≡ map (stamp_at e) (reverse (stamps_by s c.made)) ++ end_stamps e ends
  pub stuck : ends ≡ true → IsStuck S s c × (pending ≡ [])

-- a stream of an epoch's leader
pub record StreamOk (S : Setting) (e s : ℕ) (first log : Log) (c : Core) (pending : List Item) : Type 0 where
  pub begins : IsPrefix first log
  pub encoded : AllEncode (tail_of first log)
  pub says : Says S e s (batches_of (tail_of first log)) c pending

module _ (setup : Setup) where
  pub record TermOk (e : ℕ) (initial : List Log) (streams : List Leading) (account : Account) : Type 0 where
    pub low : 1 ≤ e
    pub high : e < 2 ^ 20
    pub each : (s : ℕ) → is_node setup.workers s ≡ true
        → StreamOk (own_setting (leader_of setup e (carried_in setup initial))) e s (first_at initial s) (log_at streams s)
        (core_of setup e (carried_in setup initial) account.turns) (account.pending s)

  abbrev pub EpochOk : (e : ℕ) → Option Term → Account → Type 0
  EpochOk e None account = account ≡ no_account
  EpochOk e (Some t) account = TermOk e t.initial t.streams account

  abbrev pub first_logs : Lead → List Log
  first_logs lead = map initial_log_of lead.streams

  -- the core of a leader is that after the turns; one that has not opened has made none, and proposed nothing
  abbrev pub CoreOk : (initial : List Log) → Lead → Account → Option Core → Type 0
  CoreOk initial lead account None =
      (account.turns ≡ []) × ((s : ℕ) → is_node setup.workers s ≡ true → (leading lead s).initial_len ≡ length (leading lead s).log)
  CoreOk initial lead account (Some core) = core ≡ core_of setup lead.epoch (carried_in setup initial) account.turns

  -- a leader that began with these logs
  pub record LeadOk (initial : List Log) (lead : Lead) (account : Account) : Type 0 where
    pub firsts : first_logs lead ≡ initial
    pub term : TermOk lead.epoch initial lead.streams account
    pub sized : length lead.streams ≡ setup.workers
    pub room : length lead.pending ≡ setup.workers
    pub begun : (s : ℕ) → is_node setup.workers s ≡ true → HasBegun lead s
    pub pending : (s : ℕ) → is_node setup.workers s ≡ true → pending_of lead s ≡ account.pending s
    pub core : CoreOk initial lead account lead.core

  -- fewer are pending than make a batch
  abbrev pub AllFew : Lead → Type 0
  AllFew lead = (s : ℕ) → is_node setup.workers s ≡ true → length (pending_of lead s) < setup.batch

  abbrev pub PartOk : (ℕ → Account) → Part → Type 0
  PartOk accounts Follows = Unit {0}
  PartOk accounts (Stands c) = (1 ≤ c.epoch) × (c.epoch < 2 ^ 20)
  PartOk accounts (Leads lead) = LeadOk (first_logs lead) lead (accounts lead.epoch) × AllFew lead

  pub record OpeningOk (terms : ℕ → Option Term) (o : Opened) : Type 0 where
    pub term : Term
    pub is : terms o.epoch ≡ Some term
    pub items : o.items ≡ opening_of setup o.epoch (carried_in setup term.initial)

  pub record Inv (w : World) (accounts : ℕ → Account) : Type 0 where
    pub epochs : (e : ℕ) → EpochOk e (w.terms e) (accounts e)
    pub parts : (a : ℕ) → is_node setup.nodes a ≡ true → PartOk accounts (node_of setup w a).part
    pub openings : (o : Opened) → In o w.openings → OpeningOk w.terms o
    pub refusals : (f : Attempt) → In f w.refusals → IsTrueCause f.refusal.worker f.refusal.cause
