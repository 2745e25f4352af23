use Rattle.std.proofs.Common.{◌≡◌, All, length}
use Rattle.rl_shared_replay.specs.Replayable.{IsReplayable}
use Rattle.rl_threads_tests.specs.Numbered.{IsNumbered}
use Rattle.rl_threads_tests.proofs.family.items_of.Given as goal

abbrev pub invariant-loop-k : goal.invariant-loop-k
invariant-loop-k l = record {
  items : All (IsReplayable l.schema) l.items;
  seqs : IsNumbered l.first l.items;
  many : length l.items ≡ l.k;
}
