use Rattle.std.proofs.Common.{◌≡◌, ℕ, ◌<◌, length, take, get_or, if◌then◌else◌}
use Rattle.std.specs.List.{list_any}
use Rattle.rl_worker.specs.Stamping.{is_at}
use Rattle.rl_worker.proofs.opening.stamp_writes.Given as goal

abbrev pub invariant-loop-write : goal.invariant-loop-write
invariant-loop-write l = record {
  count : length l.stamps.items ≡ length l.fn.stamps.items;
  stamps : (r : ℕ) → r < length l.stamps.items → get_or l.stamps.items r 0
      ≡ (if list_any (is_at l.layout r) (take l.write-index l.write-items) then l.stamp else get_or l.fn.stamps.items r 0);
}
