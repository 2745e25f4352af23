use Rattle.std.proofs.Common.{sym, subst}
use Rattle.std.specs.List.{filter, flat_map}
use Rattle.rl_txn.specs.declared.item.Item.{Item}
use Rattle.rl_families.specs.Logs.{items_along}
use Rattle.rl_families.specs.Families.{is_counted}
use Rattle.rl_families.specs.Order.{IsInOrder}
use Rattle.rl_families.proofs.Sorting.{in_order_sorted}
use Rattle.rl_cut.proofs.Growing.{sorted_in_order}
use Rattle.rl_cut.proofs.family.Family.kept_history.Goals as goal

pub returns-clause-in_order : goal.returns-clause-in_order
returns-clause-in_order c =
    subst IsInOrder (sym c.self.invariant.history) (sorted_in_order _ (in_order_sorted (filter (λ (x : Item). is_counted c.self.inside.logs.items x.stamp) (flat_map items_along c.self.inside.logs.items))))
