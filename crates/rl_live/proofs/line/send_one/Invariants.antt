use Rattle.rl_live.proofs.Accepting.{HasMaybe}
use Rattle.rl_live.proofs.line.send_one.Given as goal

-- the node has the batch, or not yet
abbrev pub invariant-loop : goal.invariant-loop
invariant-loop g l =
    (goal.iterator-loop g).can_next l.iterator' × (goal.iterator-loop g).is_finite l.iterator'
    × HasMaybe l.epoch l.batch l.initial.acceptor l.acceptor
