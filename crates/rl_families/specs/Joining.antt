-- Two lists of items that both begin a third.
use Rattle.std.specs.Prelude.{◌≡◌, ◌≤◌, true, List, ◌++◌, length, map, filter}
use Rattle.std.specs.Option.{option_map_or}
use Rattle.rl_base.specs.Lists.{IsPrefix}
use Rattle.rl_base.specs.Order.{is_below}
use Rattle.rl_txn.specs.declared.item.Item.{Item}
use Rattle.rl_families.specs.Logs.{IsRising, last_stamp}

-- what the second list has above the last stamp of the first: all of it, where the first is empty
abbrev pub above_last : (first second : List Item) → List Item
above_last first second =
    filter (λ x. option_map_or (λ last. is_below last x.stamp) (last_stamp (map (λ x. x.stamp) first)) true) second

-- the first list, and behind it what the second has above its last stamp, is the longer of the two
pub record IsLonger (first second : List Item) : Type 0 where
  pub second_is : length first ≤ length second → first ++ above_last first second ≡ second
  pub first_is : length second ≤ length first → first ++ above_last first second ≡ first

-- so it is with two prefixes of a list along which the stamps rise
abbrev pub PrefixesJoin : Type 0
PrefixesJoin = (whole first second : List Item) → IsRising (map (λ x. x.stamp) whole)
    → IsPrefix first whole → IsPrefix second whole → IsLonger first second
