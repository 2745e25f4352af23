use Rattle.std.proofs.Common.{◌≡◌, ◌++◌}
use Rattle.std.specs.Vec.Iter.{into_iter_items}
use Rattle.rl_shared_replay.specs.Jobs.{AllReady}
use Rattle.rl_shared_replay.proofs.run.hand_out.Given as goal

-- a job for each part so far
abbrev pub invariant-loop-items : goal.invariant-loop-items
invariant-loop-items l = record {
  seat : l.seat ≡ l.fn.seat;
  all : l.yielded ++ into_iter_items l.items-iterator ≡ l.fn.parts;
  ready : AllReady l.records l.yielded l.jobs.items;
}
