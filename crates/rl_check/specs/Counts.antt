-- What a checker counts of the items so far. No public contract cites it.
use Rattle.std.specs.Prelude.{◌≡◌, ℕ, ◌+◌, ◌<◌, ◌≤◌, List, length, slice_index, All}
use Rattle.rl_base.specs.Stamps.{packed}
use Rattle.rl_txn.specs.Serial.{indexes_of}
use Rattle.rl_txn.specs.declared.item.Item.{Item}

-- a number is the greatest stamp of some items, or 0
pub record IsGreatest (items : List Item) (n : ℕ) : Type 0 where
  pub below : All (λ item. packed item.stamp ≤ n) items
  pub least : (bound : ℕ) → 0 < bound → All (λ item. packed item.stamp < bound) items → n < bound

-- how many items each worker has, one number for each list
pub record CountsItems (workers : ℕ) (items : List Item) (counts : List ℕ) : Type 0 where
  pub one_each : length counts ≡ workers
  pub each : (w : ℕ) → w < workers → slice_index counts w ≡ length (indexes_of (w + 1) items)
