use Rattle.std.proofs.Common.{◌≡◌, ◌∷◌, take}
use Rattle.rl_store.proofs.cells.Cells.present.Given as goal

abbrev pub invariant-loop-c : goal.invariant-loop-c
invariant-loop-c l = l.cells ≡ 1 ∷ take l.c l.row
