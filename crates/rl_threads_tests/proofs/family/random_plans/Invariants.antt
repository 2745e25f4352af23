use Rattle.std.proofs.Common.{◌≤◌, ◌*◌, length}
use Rattle.std.specs.Prelude.{sum_by}
use Rattle.rl_threads_tests.proofs.family.random_plans.Given as goal

abbrev pub invariant-loop-p : goal.invariant-loop-p
invariant-loop-p l = sum_by (λ plan. length plan.items) l.plans.items ≤ 1048576 * l.p
