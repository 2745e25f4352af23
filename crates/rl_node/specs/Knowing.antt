-- What becomes of the known batches of a stream. No public contract cites it.
use Rattle.std.specs.Prelude.{◌≡◌, ℕ, ◌-◌, ◌≤◌, List, length, take, slice_set}
use Rattle.rl_families.specs.Streams.{log_at}
use Rattle.rl_paxos.specs.Logs.{Log}
use Rattle.rl_txn.specs.declared.batch.Batch.{Batch}
use Rattle.rl_nodes.specs.Batches.{batches_of}
use Rattle.rl_node.specs.declared.running.Running.{Running}

-- the log of stream s of a family is that of the first slots of a log of bytes now, from low to high of them
pub record HasFront (old new : List (List Batch)) (s : ℕ) (log : Log) (low high : ℕ) : Type 0 where
  pub len : ℕ
  pub from_low : low ≤ len
  pub to_high : len ≤ high
  pub family : new ≡ slice_set old (s - 1) (batches_of (take len log))

-- the first batches of a log of stream s are known now, as many as before or more
pub record KnowsFront (old new : Running) (s : ℕ) (log : Log) (len : ℕ) : Type 0 where
  pub more : length (log_at old.known s) ≤ len
  pub within : len ≤ length log
  pub known : new.known ≡ slice_set old.known (s - 1) (batches_of (take len log))
  pub same : new ≡ record old { known = new.known }
