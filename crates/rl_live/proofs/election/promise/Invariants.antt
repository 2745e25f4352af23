use Rattle.std.proofs.Common.{◌≡◌, All}
use Rattle.rl_live.specs.Elections.{CanPromise, promising}
use Rattle.rl_live.proofs.election.promise.Given as goal

-- the node has promised, or not yet
abbrev pub invariant-loop : goal.invariant-loop
invariant-loop g l =
    (goal.iterator-loop g).can_next l.iterator' × (goal.iterator-loop g).is_finite l.iterator'
    × All (CanPromise l.epoch) l.node.items × (promising l.epoch l.node.items ≡ promising l.epoch l.fn.node)
