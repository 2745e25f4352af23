use Rattle.std.proofs.Common.{◌≡◌, None, take}
use Rattle.rl_shared_replay.specs.Calls.{AllSettled}
use Rattle.rl_shared_replay.specs.Start.{versions_of}
use Rattle.rl_shared_replay.proofs.work.work.Given as goal

-- the items so far are settled
abbrev pub invariant-loop-item : goal.invariant-loop-item
invariant-loop-item g l =
    (l.seat.table ≡ l.initial.seat.table) × (l.seat.view.held ≡ None)
    × AllSettled l.seat.view (versions_of l.records.made.sizes (take l.item-index l.item-items))
