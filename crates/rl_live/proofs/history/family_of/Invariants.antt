use Rattle.std.proofs.Common.{◌≡◌, ◌++◌, ◌-◌, [], length, replicate}
use Rattle.std.specs.Vec.Iter.{into_iter_items}
use Rattle.rl_live.proofs.history.family_of.Given as goal

-- the first streams have their logs, and the others none
abbrev pub invariant-loop-log : goal.invariant-loop-log
invariant-loop-log l = record {
  count : l.stream ≡ length l.yielded;
  all : l.yielded ++ into_iter_items l.log-iterator ≡ l.fn.logs;
  logs : l.family ≡ l.yielded ++ replicate (length l.fn.logs - l.stream) [];
}
