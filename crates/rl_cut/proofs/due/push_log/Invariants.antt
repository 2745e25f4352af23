use Rattle.std.proofs.Common.{◌≡◌, ◌++◌, take, filter}
use Rattle.rl_families.specs.Logs.{items_along}
use Rattle.rl_cut.specs.Kept.{counts_now}
use Rattle.rl_cut.proofs.due.push_log.Given as goal

abbrev pub invariant-loop-batch : goal.invariant-loop-batch
invariant-loop-batch l = l.due.items ≡ l.fn.due.items ++ filter (λ x. counts_now l.marks.before l.marks.now l.settled x.stamp) (items_along (take l.batch-index l.log))
