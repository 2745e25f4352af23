use Rattle.std.proofs.Common.{◌≡◌, ◌∷◌, replicate}
use Rattle.rl_store.proofs.cells.Cells.absent.Given as goal

abbrev pub invariant-loop : goal.invariant-loop
invariant-loop l = l.cells ≡ 0 ∷ replicate l.counter 0
