-- The items that can be replayed.
use Rattle.std.specs.Prelude.{◌≡◌, ◌≢◌, ℕ, ◌<◌, ◌≤◌, ◌^◌, List, All, AllPairs}
use Rattle.rl_value.specs.Tables.{Table}
use Rattle.rl_txn.specs.Fits.{WriteFits}
use Rattle.rl_txn.specs.declared.item.Item.{Item}
use Rattle.rl_txn.specs.declared.write.Write.{Write}

-- the writes are at different keys
abbrev pub AreApart : (v w : Write) → Type 0
AreApart v w = v.table ≡ w.table → v.key ≢ w.key

-- an item with a stamp in range, whose writes fit the tables, and are one for each key
pub record IsReplayable (tables : List Table) (x : Item) : Type 0 where
  pub epoch_low : 1 ≤ x.stamp.epoch
  pub epoch_high : x.stamp.epoch < 2 ^ 20
  pub seq : x.stamp.seq < 2 ^ 40
  pub fit : All (WriteFits tables) x.writes
  pub apart : AllPairs AreApart x.writes
