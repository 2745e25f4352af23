use Rattle.std.proofs.Common.{◌≡◌, ℕ, List, take}
use Rattle.rl_txn.specs.declared.batch.Batch.{Batch}
use Rattle.rl_paxos.specs.Logs.{Log}
use Rattle.rl_live.specs.Reading.{KeepsRead}
use Rattle.rl_live.proofs.history.read_logs.Given as goal

-- the first logs are read
abbrev pub invariant-loop-acceptor : goal.invariant-loop-acceptor
invariant-loop-acceptor l = (epoch : ℕ) (logs : List Log) (family : List (List Batch)) → KeepsRead epoch logs family l.node → l.read ≡ take l.acceptor-index family
