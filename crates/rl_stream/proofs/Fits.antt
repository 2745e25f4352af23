-- What follows of a stream's fields.
use Rattle.std.proofs.Common.{◌≡◌, ℕ, ◌≤◌, List, length, arith}
use Rattle.rl_paxos.specs.Leaders.{acknowledged_len}
use Rattle.rl_paxos.specs.Logs.{Log}
use Rattle.rl_paxos.proofs.Acknowledged.{acknowledged_is}
use Rattle.rl_paxos.proofs.Least.{reached_within}
use Rattle.rl_stream.specs.StreamFits.{StreamFits}

-- the acknowledged length is within the log
pub acknowledged_within : (quorum initial_len acknowledged : ℕ) (log : Log) (acked : List ℕ) → StreamFits quorum initial_len acknowledged log acked → acknowledged ≤ length log
acknowledged_within quorum initial_len acknowledged log acked f = reached_within acked acknowledged (length log) f.reach (omega (arith, f.some, f.is_acknowledged.quorum_has))

-- and it is the one that is computed
pub acknowledged_value : (quorum initial_len acknowledged : ℕ) (log : Log) (acked : List ℕ) → StreamFits quorum initial_len acknowledged log acked → acknowledged ≡ acknowledged_len quorum acked
acknowledged_value quorum initial_len acknowledged log acked f = acknowledged_is quorum acked acknowledged f.some f.within f.is_acknowledged
