use Rattle.std.proofs.Common.{◌≡◌, ◌⊎◌}
use Rattle.rl_live.specs.Elections.{CanPromise}
use Rattle.rl_live.specs.Run.{acceptor_at}
use Rattle.rl_live.proofs.election.sync_one.Given as goal

-- it has adopted the log, or nothing yet
abbrev pub invariant-loop : goal.invariant-loop
invariant-loop g l =
    (goal.iterator-loop g).can_next l.iterator' × (goal.iterator-loop g).is_finite l.iterator'
    × (CanPromise l.epoch l.acceptor ⊎ (l.acceptor ≡ acceptor_at l.epoch l.led.stream.log)) × (l.led ≡ l.initial.led)
