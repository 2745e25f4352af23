use Rattle.std.proofs.Common.{◌≡◌, drop, map}
use Rattle.rl_txn.specs.declared.item.Item.{Item}
use Rattle.rl_node.specs.Wrong.{last_from}
use Rattle.rl_node.proofs.wrong.last_of_items.Given as goal

abbrev pub invariant-loop-item : goal.invariant-loop-item
invariant-loop-item l =
    last_from l.found (map (λ (x : Item). x.stamp) (drop l.item-index l.items)) ≡ last_from l.fn.last (map (λ (x : Item). x.stamp) l.items)
