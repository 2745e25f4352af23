use Rattle.std.proofs.Common.{◌≡◌}
use Rattle.rl_paxos.specs.Acceptors.{prepared}
use Rattle.rl_live.proofs.Firsts.{firsts}
use Rattle.rl_live.proofs.election.prepare.Given as goal

-- the first ones have promised
abbrev pub invariant-loop-i : goal.invariant-loop-i
invariant-loop-i l = l.node.items ≡ firsts (λ a. prepared a l.epoch) l.i l.fn.node.items
