use Rattle.std.proofs.Common.{◌≡◌, take, filter}
use Rattle.std.specs.List.{flat_map}
use Rattle.rl_families.specs.Logs.{items_along}
use Rattle.rl_cut.specs.Kept.{counts_now}
use Rattle.rl_cut.proofs.due.due.Given as goal

abbrev pub invariant-loop-i : goal.invariant-loop-i
invariant-loop-i l = l.due.items ≡ filter (λ x. counts_now l.marks.before l.marks.now l.settled x.stamp) (flat_map items_along (take l.i l.logs))
