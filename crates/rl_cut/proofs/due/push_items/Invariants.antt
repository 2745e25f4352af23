use Rattle.std.proofs.Common.{◌≡◌, ◌++◌, take, filter}
use Rattle.rl_cut.specs.Kept.{counts_now}
use Rattle.rl_cut.proofs.due.push_items.Given as goal

abbrev pub invariant-loop-item : goal.invariant-loop-item
invariant-loop-item l = l.due.items ≡ l.fn.due.items ++ filter (λ x. counts_now l.marks.before l.marks.now l.settled x.stamp) (take l.item-index l.items)
