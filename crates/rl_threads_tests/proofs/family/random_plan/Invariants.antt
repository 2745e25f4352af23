use Rattle.std.proofs.Common.{◌≤◌, length}
use Rattle.rl_threads_tests.proofs.family.random_plan.Given as goal

abbrev pub invariant-loop-k : goal.invariant-loop-k
invariant-loop-k l = length l.plan.items ≤ l.k
