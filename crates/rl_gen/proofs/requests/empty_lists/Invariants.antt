use Rattle.std.proofs.Common.{◌≡◌, [], replicate}
use Rattle.rl_gen.proofs.requests.empty_lists.Given as goal

abbrev pub invariant-loop-worker : goal.invariant-loop-worker
invariant-loop-worker l = l.lists ≡ replicate l.worker []
