use Rattle.std.proofs.Common.{◌≡◌, ℕ, Bool, ap, ◌∙◌, arith, rules}
use Rattle.std.specs.Ordering.{is_lt, ordering_then, nat_cmp}
use Rattle.std.proofs.lemmas.Bool.Decides.{nat_tests}
use Rattle.std.proofs.lemmas.List.Sorted.{answers_always}
use Rattle.rl_txn.specs.declared.item.Item.{Item}
use Rattle.rl_families.specs.Order.{in_order}
use Rattle.rl_families.proofs.Sorting.{lower}
use Rattle.rl_cut.proofs.StableSort.{sorts}
use Rattle.rl_cut.proofs.due.in_order_due.Goals as goal

by_key : Item → Item → Bool
by_key x y = is_lt (ordering_then (nat_cmp x.stamp.epoch y.stamp.epoch) (nat_cmp x.stamp.seq y.stamp.seq))

agree : (x y : Item) → by_key x y ≡ lower x y
unfolding by_key
agree x y = grind (arith, nat_tests)

pub returns : goal.returns
unfolding by_key
returns c =
    let key : Item → ℕ × ℕ = λ x. (x.stamp.epoch, x.stamp.seq) in
    sorts by_key c.in_ok-due.due.items c.sort_by_key.new.self.items agree
    (c.in_ok-sort_by_key.ensures.sorted key (answers_always _ _ _ (λ f a r g q. search rules)))
    (c.in_ok-sort_by_key.ensures.stable key (answers_always _ _ _ (λ f a r g q. search rules)))
    ∙ ap in_order c.in_ok-due.ensures
