use Rattle.std.proofs.Common.{◌≡◌}
use Rattle.rl_live.specs.Sending.{IsSpread, IsSameLine}
use Rattle.rl_live.proofs.line.Line.release.Given as goal

-- all but the queue is as it was
abbrev pub invariant-loop : goal.invariant-loop
invariant-loop g l =
    (goal.iterator-loop g).can_next l.iterator' × (goal.iterator-loop g).is_finite l.iterator'
    × IsSpread l.progress l.self × IsSameLine l.initial.self l.self × (l.self.stream.log ≡ l.initial.self.stream.log)
    × (l.self.seat.view.last ≡ l.initial.self.seat.view.last)
