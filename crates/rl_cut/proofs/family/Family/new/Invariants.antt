use Rattle.std.proofs.Common.{◌≡◌, [], replicate}
use Rattle.rl_cut.proofs.family.Family.new.Given as goal

abbrev pub invariant-loop-stream : goal.invariant-loop-stream
invariant-loop-stream l = record {
  logs : l.logs.items ≡ replicate l._stream [];
  reached : l.reached.items ≡ replicate l._stream [];
  counted : l.counted.items ≡ replicate l._stream 0;
}
