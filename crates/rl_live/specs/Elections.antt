-- How a leader's streams begin: what every node promises, what is recovered, and what every node adopts.
use Rattle.std.specs.Prelude.{◌≡◌, ℕ, zero, suc, ◌+◌, ◌/◌, ◌<◌, ◌≤◌, List, [], ◌∷◌, ◌++◌, length, map, All}
use Rattle.rl_base.specs.declared.limit.TheConstants.{SLOTS}
use Rattle.rl_batch.specs.Encoding.{batch_bytes}
use Rattle.rl_families.specs.Leaders.{open_mark}
use Rattle.rl_paxos.specs.Acceptors.{Acceptor, kept_ballot, kept_log, prepared}
use Rattle.rl_paxos.specs.Leaders.{new_leading, with_ack}
use Rattle.rl_paxos.specs.Logs as bytes
use Rattle.rl_live.specs.declared.election.Led.{Led}
use Rattle.rl_live.specs.Run.{acceptor_at}

-- the log with the open mark of an epoch behind it
abbrev pub with_mark : (epoch : ℕ) → (log : bytes.Log) → bytes.Log
with_mark epoch log = log ++ batch_bytes (open_mark epoch) ∷ []

-- how many of the nodes are a quorum
abbrev pub majority : (nodes : ℕ) → ℕ
majority nodes = nodes / 2 + 1

-- an acceptor of one stream, which has promised nothing above an epoch, and adopted nothing at it
pub record CanPromise (epoch : ℕ) (a : Acceptor) : Type 0 where
  pub promised : a.promised ≤ epoch
  pub one : length a.streams ≡ 1
  pub below : kept_ballot a 1 < epoch

-- all acceptors of a node, once they have promised
abbrev pub promising : (epoch : ℕ) → List Acceptor → List Acceptor
promising epoch node = map (λ a. prepared a epoch) node

-- the acceptors of a node keep these logs
abbrev pub HasLogs : (logs : List bytes.Log) → (node : List Acceptor) → Type 0
HasLogs logs node = map (λ a. kept_log a 1) node ≡ logs

-- all nodes keep the same logs, one for each stream, in which there is room for a mark
pub record HaveSameLogs (logs : List bytes.Log) (streams : ℕ) (nodes : List (List Acceptor)) : Type 0 where
  pub streams_are : length logs ≡ streams
  pub room : All (λ log. length log < SLOTS) logs
  pub each : All (HasLogs logs) nodes

-- the stream of a leader that begins with a log, which no node has yet
abbrev pub new_led : (epoch nodes : ℕ) → (log : bytes.Log) → Led
new_led epoch nodes log = record { stream = new_leading epoch nodes (majority nodes) log; acceptors = [] }

-- a node more has adopted the log, and acked all of it
abbrev pub with_node : (epoch node : ℕ) → Led → Led
with_node epoch node led = record {
  stream = with_ack led.stream node (length led.stream.log);
  acceptors = led.acceptors ++ acceptor_at epoch led.stream.log ∷ [];
}

-- nodes 1 to k have
abbrev pub with_nodes : (epoch k : ℕ) → Led → Led
with_nodes epoch zero led = led
with_nodes epoch (suc k) led = with_node epoch (suc k) (with_nodes epoch k led)

-- the stream of a leader whose log every node has adopted and acked
abbrev pub led_with : (epoch nodes : ℕ) → (log : bytes.Log) → Led
led_with epoch nodes log = with_nodes epoch nodes (new_led epoch nodes log)
