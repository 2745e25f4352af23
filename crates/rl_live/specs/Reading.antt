-- What nodes keep, read: the batches of their logs, and what of them is replayed.
use Rattle.std.specs.Prelude.{◌≡◌, ℕ, List, map, All}
use Rattle.std.specs.List.{AllZip, filter, flat_map}
use Rattle.rl_value.specs.Tables.{Table}
use Rattle.rl_txn.specs.declared.batch.Batch.{Batch}
use Rattle.rl_txn.specs.declared.item.Item.{Item}
use Rattle.rl_families.specs.Families.{is_counted}
use Rattle.rl_families.specs.Logs.{items_along}
use Rattle.rl_paxos.specs.Acceptors.{Acceptor}
use Rattle.rl_paxos.specs.Logs as bytes
use Rattle.rl_replay.specs.Replay.{AreDistinct}
use Rattle.rl_shared_replay.specs.Replayable.{IsReplayable}
use Rattle.rl_live.specs.Run.{acceptor_at, IsReadAs}

-- a node keeps these logs, whose bytes are read as these batches
pub record KeepsRead (epoch : ℕ) (logs : List bytes.Log) (family : List (List Batch)) (node : List Acceptor) : Type 0 where
  pub acceptors_are : node ≡ map (acceptor_at epoch) logs
  pub read : AllZip IsReadAs logs family

-- the items of a log that count in a history
abbrev pub counted_of : (family : List (List Batch)) → (log : List Batch) → List Item
counted_of family log = filter (λ x. is_counted family x.stamp) (items_along log)

-- the items of these logs can be replayed
pub record CanReplay (tables : List Table) (family : List (List Batch)) : Type 0 where
  pub fit : All (IsReplayable tables) (flat_map items_along family)
  pub distinct : AreDistinct (flat_map items_along family)
