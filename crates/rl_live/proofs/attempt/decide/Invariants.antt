use Rattle.std.proofs.Common.{◌≡◌}
use Rattle.rl_live.specs.Attempts.{IsUndecided}
use Rattle.rl_live.proofs.attempt.decide.Given as goal

-- nothing was decided yet
abbrev pub invariant-loop : goal.invariant-loop
invariant-loop g l =
    (goal.iterator-loop g).can_next l.iterator' × (goal.iterator-loop g).is_finite l.iterator'
    × (l.pass.table ≡ l.fn.pass.table) × IsUndecided l.fn.pass.view l.pass.view
