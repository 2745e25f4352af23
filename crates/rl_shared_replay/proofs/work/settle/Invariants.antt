use Rattle.std.proofs.Common.{◌≡◌, None}
use Rattle.rl_shared_replay.specs.Calls.{KeepsSettled}
use Rattle.rl_shared_replay.proofs.work.settle.Given as goal

-- nothing is held
abbrev pub invariant-loop : goal.invariant-loop
invariant-loop g l =
    (goal.iterator-loop g).can_next l.iterator' × (goal.iterator-loop g).is_finite l.iterator'
    × (l.seat.table ≡ l.initial.seat.table) × (l.seat.view.held ≡ None)
    × KeepsSettled l.initial.seat.view l.seat.view
