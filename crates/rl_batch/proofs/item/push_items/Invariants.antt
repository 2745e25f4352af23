use Rattle.std.proofs.Common.{◌≡◌, ◌++◌, take, All}
use Rattle.std.specs.List.{flat_map}
use Rattle.rl_batch.specs.Encoding.{item_bytes}
use Rattle.rl_batch.specs.Ranges.{ItemHasWords}
use Rattle.rl_batch.proofs.item.push_items.Given as goal

abbrev pub invariant-loop-item : goal.invariant-loop-item
invariant-loop-item l = (l.out ≡ l.initial.out ++ flat_map item_bytes (take l.item-index l.items)) × All ItemHasWords (take l.item-index l.items)
