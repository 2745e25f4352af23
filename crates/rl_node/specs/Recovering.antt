-- A candidate that counts a promise, and leads with those that it needs. No public contract cites it.
use Rattle.std.specs.Prelude.{◌≡◌, ℕ, ◌==◌, List, [], map, length, replicate, Bool, true, None, Ok, Err}
use Rattle.std.specs.List.{list_any, range_with_len}
use Rattle.rl_base.specs.declared.limit.TheConstants.{SLOTS}
use Rattle.rl_msg.specs.declared.msg.Msg.{Msg}
use Rattle.rl_msg.specs.declared.msg.Msg.TheVariants.{Sync}
use Rattle.rl_paxos.specs.Leaders.{Leading, new_leading}
use Rattle.rl_paxos.specs.Logs.{Log}
use Rattle.rl_paxos.specs.Recovery.{Candidate}
use Rattle.rl_nodes.specs.Answers.{sending}
use Rattle.rl_nodes.specs.Handles.{stands_or_leads}
use Rattle.rl_nodes.specs.Nodes.{NodeState, Part, initial_log_of}
use Rattle.rl_nodes.specs.Setups.{Setup}
use Rattle.rl_nodes.specs.declared.node_error.NodeError.{NodeError}
use Rattle.rl_nodes.specs.declared.node_error.NodeError.TheVariants.{StreamFull, Memory}
use Rattle.rl_node.specs.Outs.{Adds}
use Rattle.rl_node.specs.Standing.{StandsPart}
use Rattle.rl_node.specs.declared.part.Lead as leads
use Rattle.rl_node.specs.declared.recovering.Elected.{Elected}

-- a leader that has just begun with some logs
pub record IsNewLead (setup : Setup) (e : ℕ) (logs : List Log) (l : leads.Lead) : Type 0 where
  pub epoch : l.epoch ≡ e
  pub streams : l.streams.items ≡ map (new_leading e setup.nodes setup.second_quorum) logs
  pub acknowledged : l.acknowledged ≡ replicate setup.workers []
  pub works : l.works ≡ None
  pub pending : l.pending.items ≡ replicate setup.workers []

-- the initial log of a stream, for each of nodes 1 to n
abbrev pub syncs_of : (a e s : ℕ) → Leading → (n : ℕ) → List Msg
syncs_of a e s x n = map (λ to. Sync a to e s (initial_log_of x)) (range_with_len 1 n)

-- a log has no slot left, or one of some logs has none
abbrev pub is_full : Log → Bool
is_full log = length log == SLOTS

abbrev pub some_full : List Log → Bool
some_full logs = list_any is_full logs

-- why a batch is not appended to a log: that is full, or there was no memory
abbrev pub RefusesLog : Log → NodeError → Type 0
RefusesLog log (StreamFull slots) = (is_full log ≡ true) × (slots ≡ SLOTS)
RefusesLog log Memory = Unit {0}
RefusesLog log other = ⊥

-- or to each of some logs
abbrev pub RefusesLogs : List Log → NodeError → Type 0
RefusesLogs logs (StreamFull slots) = (some_full logs ≡ true) × (slots ≡ SLOTS)
RefusesLogs logs Memory = Unit {0}
RefusesLogs logs other = ⊥

-- a candidate is another part now, and sends what is due then
pub record HasBecome (setup : Setup) (a : ℕ) (c : Candidate) (e : Elected) : Type 0 where
  pub part : Part
  pub stands : StandsPart setup e.part part
  pub messages : List Msg
  pub sends : Adds [] e.sends messages
  pub due : (x : NodeState) → stands_or_leads setup a x c ≡ Ok (sending (record x { part = part }) messages)

-- or it does not go on, where that is due
abbrev pub FailsToLead : Setup → (a : ℕ) → Candidate → NodeError → Type 0
FailsToLead setup a c (StreamFull slots) = (x : NodeState) → stands_or_leads setup a x c ≡ Err (StreamFull slots)
FailsToLead setup a c Memory = Unit {0}
FailsToLead setup a c other = ⊥
