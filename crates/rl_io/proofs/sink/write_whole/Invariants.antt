use Rattle.std.proofs.Common.{◌≡◌, ◌-◌, ◌≤◌, length, take}
use Rattle.std.specs.Io.KnownBytes.{append_known}
use Rattle.rl_io.proofs.sink.write_whole.Given as goal

abbrev pub invariant-loop-at : goal.invariant-loop-at
invariant-loop-at g l =
    let sink = g.K.Sink in
    record {
      within : l.at ≤ length l.bytes;
      unfailed : sink.faults l.sink ≡ sink.faults l.fn.sink;
      begun : l.at ≡ 0 → l.sink ≡ l.fn.sink;
      written : sink.held l.sink ≡ append_known (sink.held l.fn.sink) (take l.at l.bytes);
    }

abbrev pub decreases-loop-at : goal.decreases-loop-at
decreases-loop-at g l = length l.bytes - l.at
