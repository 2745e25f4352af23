use Rattle.rl_live.proofs.Spreading.{IsSpreading}
use Rattle.rl_live.proofs.line.Line.spread.Given as goal

-- the nodes before the i-th have the batch
abbrev pub invariant-loop-i : goal.invariant-loop-i
invariant-loop-i g l = IsSpreading l.progress l.slot l.seq l.batch l.initial.self l.i l.published l.self
