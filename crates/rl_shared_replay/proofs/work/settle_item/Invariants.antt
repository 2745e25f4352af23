use Rattle.std.proofs.Common.{◌≡◌, None, map, take}
use Rattle.rl_base.specs.Stamps.{packed}
use Rattle.rl_shared_replay.specs.Calls.{KeepsSettled, AllSettled}
use Rattle.rl_shared_replay.specs.Start.{version_of}
use Rattle.rl_shared_replay.proofs.work.settle_item.Given as goal

-- the writes so far are settled
abbrev pub invariant-loop-write : goal.invariant-loop-write
invariant-loop-write g l =
    (l.seat.table ≡ l.initial.seat.table) × (l.seat.view.held ≡ None)
    × KeepsSettled l.initial.seat.view l.seat.view
    × AllSettled l.seat.view (map (version_of l.records.made.sizes (packed l.item.stamp)) (take l.write-index l.write-items))
