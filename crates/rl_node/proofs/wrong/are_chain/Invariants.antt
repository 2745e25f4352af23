use Rattle.std.proofs.Common.{◌≡◌, drop, map}
use Rattle.rl_txn.specs.declared.item.Item.{Item}
use Rattle.rl_node.specs.Wrong.{is_chain}
use Rattle.rl_node.proofs.wrong.are_chain.Given as goal

abbrev pub invariant-loop-item : goal.invariant-loop-item
invariant-loop-item l =
    is_chain l.before (map (λ (x : Item). x.stamp) (drop l.item-index l.items)) ≡ is_chain l.fn.last (map (λ (x : Item). x.stamp) l.items)
