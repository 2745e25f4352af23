use Rattle.rl_live.proofs.Turning.{IsOn}
use Rattle.rl_live.proofs.work.work.Given as goal

-- the first k requests were done
abbrev pub invariant-loop-k : goal.invariant-loop-k
invariant-loop-k g l = IsOn l.schema l.store l.progress l.fn.worker l.list l.k l.pass l.pending l.line
