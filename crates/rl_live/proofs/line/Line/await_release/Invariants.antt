use Rattle.std.proofs.Common.{◌≡◌}
use Rattle.rl_live.proofs.line.Line.await_release.Given as goal

-- all but the queue is as it was
abbrev pub invariant-loop-item : goal.invariant-loop-item
invariant-loop-item l = l.self ≡ record l.initial.self { queue = l.self.queue }
