-- A stream that a message names is there, and what is known of it. No public contract cites it.
use Rattle.std.specs.Prelude.{ℕ, List, length, take, Option, IfSome}
use Rattle.rl_families.specs.Streams.{log_at}
use Rattle.rl_paxos.specs.Acceptors.{Acceptor, kept_log}
use Rattle.rl_paxos.specs.Logs.{Log}
use Rattle.rl_txn.specs.declared.batch.Batch.{Batch}
use Rattle.rl_nodes.specs.Nodes.{Part}
use Rattle.rl_nodes.specs.Setups.{Setup}
use Rattle.rl_node.specs.Fits.{IsStream}
use Rattle.rl_node.specs.Standing.{IsNode, StandsPart}
use Rattle.rl_node.specs.declared.node.Node.{Node}
use Rattle.rl_node.specs.declared.part.Part as code

-- at a node
pub record HasNamed (n : Node) (stream : Option ℕ) : Type 0 where
  pub setup : Setup
  pub node : IsNode setup n
  pub has : IfSome stream (IsStream setup)

-- at a part
pub record HasPartStream (p : code.Part) (stream : ℕ) : Type 0 where
  pub setup : Setup
  pub part : Part
  pub stands : StandsPart setup p part
  pub has : IsStream setup stream

-- something holds whatever a part stands for
abbrev pub ForAnyPart : code.Part → (Part → Type 0) → Type 0
ForAnyPart p P = (setup : Setup) (x : Part) → StandsPart setup p x → P x

-- what is known to be chosen of what an acceptor keeps of a stream
abbrev pub known_front : Acceptor → (known : List (List Batch)) → (s : ℕ) → Log
known_front x known s = take (length (log_at known s)) (kept_log x s)
