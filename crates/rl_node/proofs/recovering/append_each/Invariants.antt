use Rattle.std.proofs.Common.{◌≡◌, ◌++◌, [], ◌∷◌, false, map}
use Rattle.std.specs.Vec.Iter.{into_iter_items}
use Rattle.rl_node.specs.Recovering.{some_full}
use Rattle.rl_node.proofs.recovering.append_each.Given as goal

-- the logs so far
abbrev pub invariant-loop-log : goal.invariant-loop-log
invariant-loop-log l = record {
  whole : l.yielded ++ into_iter_items l.log-iterator ≡ l.fn.logs;
  each : l.all ≡ map (λ log. log ++ l.batch ∷ []) l.yielded;
  room : some_full l.yielded ≡ false;
}
