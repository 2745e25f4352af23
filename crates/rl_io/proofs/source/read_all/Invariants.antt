use Rattle.std.proofs.Common.{◌≡◌, ◌-◌, ◌≤◌, length}
use Rattle.std.specs.Io.KnownBytes.{prepend_known}
use Rattle.rl_io.proofs.source.read_all.Given as goal

abbrev pub invariant-reads : goal.invariant-reads
invariant-reads g l =
    let source = g.S.Source in
    record {
      within : length l.bytes ≤ l.limit;
      unfailed : source.faults l.source ≡ source.faults l.fn.source;
      read : source.left l.fn.source ≡ prepend_known l.bytes (source.left l.source);
    }

abbrev pub decreases-reads : goal.decreases-reads
decreases-reads g l = l.limit - length l.bytes
