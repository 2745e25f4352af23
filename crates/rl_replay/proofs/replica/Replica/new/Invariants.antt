use Rattle.std.proofs.Common.{◌≡◌, replicate}
use Rattle.rl_replay.specs.Cursors.{start}
use Rattle.rl_replay.proofs.replica.Replica.new.Given as goal

abbrev pub invariant-loop-stream : goal.invariant-loop-stream
invariant-loop-stream l = record {
  played : l.played.items ≡ replicate l._stream 0;
  cursors : l.cursors.items ≡ replicate l._stream start;
}
