-- The streams of a family, and what sets the items of its logs apart.
use Rattle.std.specs.Prelude.{◌≢◌, ℕ, ◌-◌, ◌<◌, ◌≤◌, List, [], slice_index_or, AllPairs, All, Contains, length}
use Rattle.rl_txn.specs.declared.item.Item.{Item}
use Rattle.rl_txn.specs.declared.batch.Batch.{Batch}
use Rattle.rl_families.specs.Logs.{stamps_along, items_along}
use Rattle.rl_families.specs.Families.{AllRise}

-- the log of a stream; streams are numbered from 1
abbrev pub log_at : (family : List (List Batch)) → (stream : ℕ) → List Batch
log_at family stream = slice_index_or family (stream - 1) []

-- a family has this stream
pub record IsStreamOf (family : List (List Batch)) (stream : ℕ) : Type 0 where
  pub low : 1 ≤ stream
  pub high : stream ≤ length family

-- no item of one log has the stamp of an item of the other
abbrev pub HaveOtherStamps : (log other : List Batch) → Type 0
HaveOtherStamps log other =
    (x y : Item) → Contains (items_along log) x → Contains (items_along other) y
    → x.stamp ≢ y.stamp

-- stamps rise along each log, are of epochs above 0, and no two items have one
pub record IsStamped (family : List (List Batch)) : Type 0 where
  pub rising : AllRise family
  pub begun : All (λ log. All (λ s. 0 < s.epoch) (stamps_along log)) family
  pub apart : AllPairs HaveOtherStamps family
